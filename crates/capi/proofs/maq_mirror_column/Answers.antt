-- `capi::maq_mirror_column` meets its contract.
use mathlib.Core.Path.{sym, ap, ◌∙◌}
use Rattle.model.specs.Refusals.{number_of}
use Rattle.model.specs.Calls.{Contents}
use Rattle.capi.proofs.Beyond.{column_by}
use Rattle.capi.proofs.maq_mirror_column.Goals as goal

pub returns : goal.returns
returns c =
    let a = c.args in
    let p =
    column_by a.area.now a.table a.id.now a.column a.out.now c.small.result c.small-2.result _ c.small.ensures c.small-2.ensures c.column.ensures.out_value in
    record { value = c.number.ensures ∙ c.column.ensures.result_value; value_2 = c.number.ensures ∙ ap (λ (q : Contents). number_of q.status) (sym p); out_after = ap (λ (q : Contents). q.out) (sym p) }
