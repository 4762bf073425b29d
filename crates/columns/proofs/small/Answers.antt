-- `columns::small` meets its contract.
use borrow.Author.Tests.{lt-ltb, le-ltb}
use Rattle.columns.specs.Columns.{small}
use Rattle.columns.proofs.small.Goals as goal

pub returns-then-x-lt256 : goal.returns-then-x-lt256
unfolding small
returns-then-x-lt256 c = rw (small, lt-ltb _ _ c.if-x-lt256.true)

pub returns-else-x-lt256 : goal.returns-else-x-lt256
unfolding small
returns-else-x-lt256 c = rw (small, le-ltb _ _ c.if-x-lt256.false)
