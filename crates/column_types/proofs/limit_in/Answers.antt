-- `column_types::limit_in` meets its contract.
use borrow.Author.Tests.{eq-eqb, ne_eqb}
use Rattle.column_types.specs.Types.{limit_in}
use Rattle.column_types.proofs.limit_in.Goals as goal

pub returns-then-p-eq0 : goal.returns-then-p-eq0
unfolding limit_in
returns-then-p-eq0 c = rw (limit_in, eq-eqb _ 0 c.if-p-eq0.true)

pub returns : goal.returns
unfolding limit_in
returns c = rw (limit_in, ne_eqb _ 0 c.if-p-eq0.false) c.whole_in.ensures
