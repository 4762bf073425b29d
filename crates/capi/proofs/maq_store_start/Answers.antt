-- `capi::maq_store_start` meets its contract.
use mathlib.Core.Path.{ap, ◌∙◌}
use Rattle.model.specs.Refusals.{number_of}
use Rattle.capi.proofs.maq_store_start.Goals as goal

pub returns : goal.returns
returns c =
    let p = c.start.ensures in
    record { value = c.number.ensures ∙ p.result_value; value_2 = c.number.ensures ∙ ap number_of p.value; area_after = p.area_after }
