-- `column_types::bound_in` meets its contract.
use borrow.Author.Tests.{eq-eqb, ne_eqb}
use Rattle.column_types.specs.Types.{bound_in}
use Rattle.column_types.proofs.bound_in.Goals as goal

pub returns-then-base-eq0 : goal.returns-then-base-eq0
unfolding bound_in
returns-then-base-eq0 c = rw (bound_in, eq-eqb _ 0 c.if-base-eq0.true) c.limit_in.ensures

pub returns-then-base-eq2 : goal.returns-then-base-eq2
unfolding bound_in
returns-then-base-eq2 c = rw (bound_in, ne_eqb _ 0 c.if-base-eq0.false, eq-eqb _ 2 c.if-base-eq2.true) c.limit_in-then-base-eq2.ensures

pub returns : goal.returns
unfolding bound_in
returns c = rw (bound_in, ne_eqb _ 0 c.if-base-eq0.false, ne_eqb _ 2 c.if-base-eq2.false)
