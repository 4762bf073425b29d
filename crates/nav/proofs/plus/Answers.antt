-- `nav::plus` meets its contract.
use borrow.Author.Tests.{lt-ltb, le-ltb}
use Rattle.model.specs.Whole.{plus_of}
use Rattle.nav.proofs.plus.Goals as goal

pub returns-then-m-lt9223372036854775808 : goal.returns-then-m-lt9223372036854775808
unfolding plus_of
returns-then-m-lt9223372036854775808 c = rw (c.in-Some.is, plus_of, lt-ltb _ _ c.if-m-lt9223372036854775808.true)

pub returns-else-m-lt9223372036854775808 : goal.returns-else-m-lt9223372036854775808
unfolding plus_of
returns-else-m-lt9223372036854775808 c = rw (c.in-Some.is, plus_of, le-ltb _ _ c.if-m-lt9223372036854775808.false)

pub returns-in-None : goal.returns-in-None
unfolding plus_of
returns-in-None c = rw c.in-None.is
