-- `members::kind_in` meets its contract.
use mathlib.Core.Path.{sym, ap, ◌∙◌}
use Rattle.members.proofs.Slotted.{at_some, kind_none}
use Rattle.model.specs.Nav.{kind_of}
use Rattle.members.proofs.kind_in.Goals as goal

pub returns-then-p-eq0 : goal.returns-then-p-eq0
returns-then-p-eq0 c = kind_none c.args.text.now c.if-p-eq0.true

pub returns : goal.returns
returns c = c.kind_at.ensures ∙ ap kind_of (sym (at_some c.args.text.now c.if-p-eq0.false))
