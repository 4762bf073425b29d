-- `capi::maq_mirror_has_row` meets its contract.
use mathlib.Core.Path.{ap, ◌∙◌}
use mathlib.Core.List.{[], ◌∷◌}
use Prim.Native.Nat.{ℕ}
use Rattle.capi.proofs.Telling.{presence_numbered, only_byte, presence_other, presence_output}
use Rattle.capi.proofs.maq_mirror_has_row.Goals as goal

pub returns-then-out-ne1 : goal.returns-then-out-ne1
returns-then-out-ne1 c =
    let a = c.args in
    let both = presence_numbered a.area.now a.table a.id.now a.out.now (presence_other a.area.now a.out.now c.clear.new.b a.table a.id.now c.if-out-ne1.true c.clear.ensures) in
    record { value = both.0; out_value = both.1 }

pub returns : goal.returns
returns c =
    let a = c.args in
    let both = presence_numbered a.area.now a.table a.id.now a.out.now (presence_output a.area.now a.out.now _ a.table a.id.now c.small.result _ c.number.result c.small.ensures c.has_row-p.ensures.id_value c.if-out-ne1.false c.number.ensures
    (only_byte a.out.now c.flag.result c.if-out-ne1.false ∙ ap (λ (b : ℕ). b ∷ []) c.flag.ensures)) in
    record { value = both.0; out_value = both.1 }
