-- `elements::elements_at` meets its contract.
use mathlib.Core.Path.{ap, ◌∙◌}
use Rattle.model.specs.Nav.{is_array}
use Rattle.elements.proofs.Walk.{begins_set, begins_one, begins_other}
use Rattle.elements.proofs.elements_at.Goals as goal

pub returns-then-w-l : goal.returns-then-w-l
returns-then-w-l c =
    begins_set c.args.text.now c.args.at c.pair_at-p.ensures c.in-Some.is c.is_word-w.ensures (c.is_kind-l.ensures ∙ ap is_array c.kind_at.ensures) c.if-w-l.true c.first-g.ensures

pub returns-else-w-l : goal.returns-else-w-l
returns-else-w-l c =
    begins_one c.args.text.now c.args.at c.pair_at-p.ensures c.in-Some.is c.is_word-w.ensures (c.is_kind-l.ensures ∙ ap is_array c.kind_at.ensures) c.if-w-l.false c.requires.at_value

pub returns-in-None : goal.returns-in-None
returns-in-None c =
    begins_other c.args.text.now c.args.at c.pair_at-p.ensures c.in-None.is c.requires.at_value
