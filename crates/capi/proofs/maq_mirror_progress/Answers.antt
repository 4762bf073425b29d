-- `capi::maq_mirror_progress` meets its contract.
use mathlib.Core.Path.{◌≡◌, sym, ap, ◌∙◌}
use mathlib.Core.List.{List, [], ◌∷◌, ◌++◌}
use Prim.Native.Nat.{ℕ}
use native.Mathlib.Omega.{arith}
use lib.ListN.{length, length-set}
use Rattle.model.specs.Octets.{big}
use Rattle.model.specs.Catalog.{bit}
use Rattle.capi.proofs.Telling.{progress_numbered, last_byte, progress_other, progress_output}
use Rattle.capi.proofs.maq_mirror_progress.Goals as goal

pub returns-then-out-ne5 : goal.returns-then-out-ne5
returns-then-out-ne5 c =
    let a = c.args in
    let both = progress_numbered a.area.now a.out.now (progress_other a.area.now a.out.now c.clear.new.b c.if-out-ne5.true c.clear.ensures) in
    record { value = both.0; out_value = both.1 }

pub put_number-requires : goal.put_number-requires
put_number-requires c =
    let a = c.args in
    rw (length-set a.out.now 4 c.flag.result) (omega (arith, c.if-out-ne5.false))

pub shape_of-out : goal.shape_of-out
shape_of-out c =
    let bytes_are : c.put_number.new.out ≡ big 4 c.progress-p.result.n ++ bit c.progress-p.result.level ∷ [] = let out = c.args.out.now in
    c.put_number.ensures ∙ ap (λ (l : List ℕ). big 4 c.progress-p.result.n ++ l) (last_byte out c.flag.result c.if-out-ne5.false ∙ ap (λ (b : ℕ). b ∷ []) c.flag.ensures) in
    ap length (bytes_are) ∙ sym c.if-out-ne5.false

pub returns : goal.returns
returns c =
    let bytes_are : c.put_number.new.out ≡ big 4 c.progress-p.result.n ++ bit c.progress-p.result.level ∷ [] = let out = c.args.out.now in
    c.put_number.ensures ∙ ap (λ (l : List ℕ). big 4 c.progress-p.result.n ++ l) (last_byte out c.flag.result c.if-out-ne5.false ∙ ap (λ (b : ℕ). b ∷ []) c.flag.ensures) in
    let a = c.args in
    let both = progress_numbered a.area.now a.out.now (progress_output a.area.now a.out.now _ _ c.number.result c.progress-p.ensures.area_value c.if-out-ne5.false c.number.ensures (bytes_are)) in
    record { value = both.0; out_value = both.1 }
