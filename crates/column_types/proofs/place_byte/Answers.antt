-- `column_types::place_byte` meets its contract.
use borrow.Author.Tests.{lt-ltb, le-ltb}
use Rattle.column_types.specs.Types.{place_byte}
use Rattle.column_types.proofs.place_byte.Goals as goal

pub returns-then-k-lt256 : goal.returns-then-k-lt256
unfolding place_byte
returns-then-k-lt256 c = rw (c.in-Some.is, place_byte, lt-ltb _ _ c.if-k-lt256.true)

pub returns-else-k-lt256 : goal.returns-else-k-lt256
unfolding place_byte
returns-else-k-lt256 c = rw (c.in-Some.is, place_byte, le-ltb _ _ c.if-k-lt256.false)

pub returns-in-None : goal.returns-in-None
unfolding place_byte
returns-in-None c = rw c.in-None.is
