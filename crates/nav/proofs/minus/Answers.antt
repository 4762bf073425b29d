-- `nav::minus` meets its contract.
use borrow.Author.Tests.{ne_eqb}
use Rattle.model.specs.Whole.{minus_of}
use Rattle.nav.proofs.minus.Goals as goal

pub returns-then-m-eq0 : goal.returns-then-m-eq0
unfolding minus_of
returns-then-m-eq0 c = rw (c.in-Some.is, c.if-m-eq0.true)

pub returns-else-m-eq0 : goal.returns-else-m-eq0
unfolding minus_of
returns-else-m-eq0 c = rw (c.in-Some.is, minus_of, ne_eqb _ _ c.if-m-eq0.false)

pub returns-in-None : goal.returns-in-None
unfolding minus_of
returns-in-None c = rw c.in-None.is
