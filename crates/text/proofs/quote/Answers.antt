-- `text::quote` meets its contract.
use Rattle.std.specs.declared.ops.ControlFlow.TheVariants.{Continue}
use mathlib.Core.Path.{◌≡◌, sym, ap, ◌∙◌}
use mathlib.Core.Logic.{⊎_elim}
use native.Mathlib.Omega.{arith}
use native.Mathlib.Nat.{sub-zero}
use Rattle.model.specs.Scan.{byte}
use Rattle.model.specs.Strings.{char_by}
use Rattle.scan.specs.Strings.{is_plain}
use Rattle.scan.proofs.Plain.{inside_plain, plain_is, plain_next}
use Rattle.text.proofs.Matching.{quote_turn, quote_done, quote_here, quote_escape, quote_spent}
use Rattle.text.proofs.quote.Goals as goal

pub loop-k-init : goal.loop-k-init
loop-k-init c = (omega arith, rw sub-zero)

pub overflow_add-i : goal.overflow_add-i
overflow_add-i c =
    let s = c.args.text.now in
    omega (arith, inside_plain s c.loop-k.i (sym (c.is_plain-plain.ensures ∙ ap is_plain c.peek-b.ensures) ∙ c.if-plain.true))

pub returns-then-b-eq-QUOTE : goal.returns-then-b-eq-QUOTE
returns-then-b-eq-QUOTE c =
    let s = c.args.text.now in
    sym (c.loop-k.invariant.1 ∙ quote_here s _ _ _ c.loop-k-test.true (sym c.peek-b.ensures ∙ c.if-b-eq-QUOTE.true))

pub returns-then-b-eq-BACKSLASH : goal.returns-then-b-eq-BACKSLASH
returns-then-b-eq-BACKSLASH c =
    let s = c.args.text.now in
    sym (c.loop-k.invariant.1 ∙ quote_escape s _ _ _ c.loop-k-test.true (sym c.peek-b.ensures ∙ c.if-b-eq-BACKSLASH.true))

pub returns-in-Break : goal.returns-in-Break
returns-in-Break c =
    let s = c.args.text.now in
    c.quote_end.ensures ∙ sym (c.loop-k.invariant.1 ∙ quote_done s _ _ _ c.loop-k-test.true (λ h. c.if-b-eq-BACKSLASH.false (c.peek-b.ensures ∙ h)) (sym c.character-n.ensures ∙ c.in-Break.is))

pub loop-k-preserved : goal.loop-k-preserved
loop-k-preserved c =
    let s = c.args.text.now in
    let i = c.loop-k.i in
    let is = c.is_plain-plain.ensures ∙ ap is_plain c.peek-b.ensures in
    let ne : byte s i ≡ 92 → ⊥ = ⊎_elim (λ w. (plain_is (byte s i) (sym is ∙ w.if-plain.true)).3) (λ w h. w.if-b-eq-BACKSLASH.false (c.peek-b.ensures ∙ h)) c.if-plain.branch-raw in
    let on : char_by s i (byte s i) ≡ Continue c.if-plain.i = ⊎_elim
    (λ w. plain_next s i (byte s i) (sym is ∙ w.if-plain.true) ∙ ap Continue (sym w.i-is))
    (λ w. sym w.character-n.ensures ∙ w.in-Continue.is ∙ ap Continue (sym w.i-is))
    c.if-plain.branch-raw in
    (omega arith, c.loop-k.invariant.1 ∙ quote_turn s _ _ _ c.loop-k-test.true ne on)

pub returns : goal.returns
returns c =
    sym (c.loop-k.invariant.1 ∙ quote_spent c.args.text.now _ _ _ c.loop-k-test.false)
