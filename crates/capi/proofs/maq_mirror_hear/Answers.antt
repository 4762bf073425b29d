-- `capi::maq_mirror_hear` meets its contract.
use mathlib.Core.Path.{sym, ap, ◌∙◌}
use Rattle.model.specs.Refusals.{number_of}
use Rattle.model.specs.Calls.{Arrived}
use Rattle.capi.proofs.maq_mirror_hear.Goals as goal

pub returns : goal.returns
returns c =
    let p = c.hear.ensures in
    record { value = c.number.ensures ∙ p.result_value; value_2 = c.number.ensures ∙ ap (λ (q : Arrived). number_of q.status) (sym p.bytes_value); area_after = ap (λ (q : Arrived). q.area) (sym p.bytes_value) }
