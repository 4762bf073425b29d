-- `capi::maq_store_mark` meets its contract.
use mathlib.Core.Path.{ap, ◌∙◌}
use Rattle.model.specs.Refusals.{number_of}
use Rattle.capi.proofs.maq_store_mark.Goals as goal

pub returns : goal.returns
returns c =
    let p = c.mark.ensures in
    record { value = c.number.ensures ∙ p.result_value; value_2 = c.number.ensures ∙ ap number_of p.value; mark_after = p.mark_after }
