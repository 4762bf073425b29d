-- `capi::maq_store_transact` meets its contract.
use mathlib.Core.Path.{sym, ap, ◌∙◌}
use Rattle.model.specs.Refusals.{number_of}
use Rattle.model.specs.Calls.{Transacted}
use Rattle.capi.proofs.maq_store_transact.Goals as goal

pub returns : goal.returns
returns c =
    let p = c.transact.ensures in
    let e = sym p.answer_value in
    record { value = c.number.ensures ∙ p.result_value; value_2 = c.number.ensures ∙ ap (λ (q : Transacted). number_of q.status) e; area_after = ap (λ (q : Transacted). q.area) e; records_after = ap (λ (q : Transacted). q.records) e; answer_after = ap (λ (q : Transacted). q.text) e }
