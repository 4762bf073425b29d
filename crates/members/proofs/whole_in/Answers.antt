-- `members::whole_in` meets its contract.
use mathlib.Core.Path.{sym, ap, ◌∙◌}
use Rattle.members.proofs.Slotted.{at_some, whole_none}
use Rattle.model.specs.Whole.{whole_of}
use Rattle.members.proofs.whole_in.Goals as goal

pub returns-then-p-eq0 : goal.returns-then-p-eq0
returns-then-p-eq0 c = whole_none c.args.text.now c.if-p-eq0.true

pub returns : goal.returns
returns c = c.integer_at.ensures ∙ ap whole_of (sym (at_some c.args.text.now c.if-p-eq0.false))
