-- `nav::value_known` meets its contract.
use Rattle.std.specs.Prelude.{Ok}
use mathlib.Core.Path.{refl, sym, ap, ◌∙◌}
use mathlib.Core.Logic.{inl, inr}
use Prim.Native.Nat.{◌+◌}
use native.Mathlib.Omega.{arith}
use borrow.Author.Tests.{eqb-true, eqb-false, not-false}
use lib.Dec.{eqb}
use mathlib.Core.Bool.{not}
use Rattle.model.specs.Scan.{byte}
use Rattle.model.proofs.Tests.{or_l, or_r}
use Rattle.scan.proofs.Bytes.{inside_byte}
use Rattle.nav.proofs.Known.{key_known}
use Rattle.nav.proofs.value_known.Goals as goal

pub returns-then-e-b : goal.returns-then-e-b
returns-then-e-b c = inl refl

pub overflow_add-result : goal.overflow_add-result
overflow_add-result c =
    let s = c.args.text.now in
    omega (arith, inside_byte s c.spaces-j.result 58 (sym c.peek-c.ensures ∙ c.if-c-eq-COLON.true) (omega arith))

pub returns-then-c-eq-COLON : goal.returns-then-c-eq-COLON
returns-then-c-eq-COLON c =
    let s = c.args.text.now in
    let some = eqb-false _ _ (or_l (eqb c.entry-e.result 0) (not (eqb c.peek-b.result 34)) c.if-e-b.false) in
    let quote = eqb-true _ _ (not-false _ (or_r (eqb c.entry-e.result 0) (not (eqb c.peek-b.result 34)) c.if-e-b.false)) in
    inr (key_known s c.args.ends.now c.requires c.args.at c.entry-e.ensures some
    (sym (c.peek-b.ensures ∙ ap (byte s) c.spaces-i.ensures) ∙ quote)
    (sym (c.peek-c.ensures ∙ ap (byte s) c.spaces-j.ensures) ∙ c.if-c-eq-COLON.true)
    ∙ ap (λ j. Ok (j + 1)) (sym c.spaces-j.ensures))

pub returns : goal.returns
returns c = inl refl
