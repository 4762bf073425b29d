-- `capi::maq_mirror_start` meets its contract.
use mathlib.Core.Path.{sym, ap, ◌∙◌}
use Rattle.model.specs.Refusals.{number_of}
use Rattle.model.specs.Calls.{Started}
use Rattle.capi.proofs.maq_mirror_start.Goals as goal

pub returns : goal.returns
returns c =
    let p = c.start.ensures in
    record { value = c.number.ensures ∙ p.result_value; value_2 = c.number.ensures ∙ ap (λ (q : Started). number_of q.status) (sym p.run_value); area_after = ap (λ (q : Started). q.area) (sym p.run_value) }
