-- `column_types::limit_fits` meets its contract.
use mathlib.Core.Path.{ap, ◌∙◌}
use borrow.Author.Tests.{eq-eqb, ne_eqb}
use Rattle.model.specs.Whole.{is_whole}
use Rattle.column_types.proofs.limit_fits.Goals as goal

pub returns-then-p-eq0 : goal.returns-then-p-eq0
returns-then-p-eq0 c = rw (eq-eqb _ 0 c.if-p-eq0.true)

pub returns-then-right : goal.returns-then-right
returns-then-right c = rw (ne_eqb _ 0 c.if-p-eq0.false, c.if-right.true) (c.is_whole.ensures ∙ ap is_whole c.whole_in-w.ensures)

pub returns : goal.returns
returns c = rw (ne_eqb _ 0 c.if-p-eq0.false, c.if-right.false)
