-- `members::truth_in` meets its contract.
use mathlib.Core.Path.{sym, ap, ◌∙◌}
use Rattle.members.proofs.Slotted.{slot_truth, slot_default}
use Rattle.model.specs.Nav.{is_truth}
use Rattle.members.proofs.truth_in.Goals as goal

pub returns-then-t : goal.returns-then-t
returns-then-t c =
    c.truth_at.ensures ∙ slot_truth c.args.text.now c.args.p c.args.d (sym (c.is_kind-t.ensures ∙ ap is_truth c.kind_in-k.ensures) ∙ c.if-t.true)

pub returns : goal.returns
returns c =
    slot_default c.args.text.now c.args.p c.args.d (sym (c.is_kind-t.ensures ∙ ap is_truth c.kind_in-k.ensures) ∙ c.if-t.false)
