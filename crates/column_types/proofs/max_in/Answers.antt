-- `column_types::max_in` meets its contract.
use borrow.Author.Tests.{eq-eqb, ne_eqb}
use Rattle.column_types.specs.Types.{max_in}
use Rattle.column_types.proofs.max_in.Goals as goal

pub returns-then-p-eq0 : goal.returns-then-p-eq0
unfolding max_in
returns-then-p-eq0 c = rw (max_in, eq-eqb _ 0 c.if-p-eq0.true)

pub returns : goal.returns
unfolding max_in
returns c = rw (max_in, ne_eqb _ 0 c.if-p-eq0.false) c.size_or.ensures
