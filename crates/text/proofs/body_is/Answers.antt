-- `text::body_is` meets its contract.
use Rattle.std.specs.declared.ops.ControlFlow.TheVariants.{Continue}
use Rattle.std.specs.Prelude.{Some, None}
use Rattle.scan.proofs.Items.{turn_tree, done_tree, spent_tree}
use Rattle.scan.proofs.Past.{PastNext, char_past}
use Rattle.scan.proofs.Bytes.{inside_byte}
use Rattle.scan.proofs.Plain.{inside_plain, plain_is, plain_next, quote_ends}
use Rattle.scan.specs.Strings.{is_plain}
use Rattle.text.specs.Match.{matched}
use Rattle.text.proofs.Matching.{going_on, eq_matched, matched_byte, matched_other, plain_bytes, matched_le, eq_rest}
use mathlib.Core.Path.{◌≡◌, sym, ap, subst, ◌∙◌}
use mathlib.Core.Logic.{⊎_elim}
use Prim.Native.Nat.{suc, ◌+◌}
use native.Mathlib.Omega.{arith}
use native.Mathlib.Nat.{sub-zero}
use Rattle.model.specs.Scan.{byte}
use Rattle.model.specs.Strings.{char_turn, char_adds, char_bytes}
use Rattle.text.proofs.body_is.Goals as goal

pub loop-k-init : goal.loop-k-init
loop-k-init c = (omega arith, omega arith, rw sub-zero)

pub returns-then-b-c : goal.returns-then-b-c
unfolding char_adds going_on
returns-then-b-c c =
    let a = c.args in
    let s = a.text.now in
    let i = c.loop-k.i in
    let plain = sym (c.is_plain-plain.ensures ∙ ap is_plain c.peek-b.ensures) ∙ c.if-plain.true in
    let q = plain_next s i (byte s i) plain in
    let m : matched (char_bytes s i (i + 1) (byte s i)) a.word.now c.loop-k.o ≡ None = rw (plain_bytes s i plain) (matched_other _ _ _ (λ h. c.if-b-c.true (c.peek-b.ensures ∙ h ∙ sym c.peek-c.ensures))) in
    sym (c.loop-k.invariant.2 ∙ rw (turn_tree (char_turn s) _ _ _ c.loop-k-test.true q, q) (eq_matched (char_bytes s i _ (byte s i)) _ a.word.now c.loop-k.o ∙ ap (going_on _ a.word.now) m))

pub overflow_add-o : goal.overflow_add-o
overflow_add-o c =
    let a = c.args in
    let b = c.peek-b.result in
    omega (arith, inside_byte a.word.now c.loop-k.o b (sym (c.if-b-c.false ∙ c.peek-c.ensures)) (omega (arith, (plain_is b (sym c.is_plain-plain.ensures ∙ c.if-plain.true)).1)))

pub overflow_add-i : goal.overflow_add-i
overflow_add-i c =
    let s = c.args.text.now in
    omega (arith, inside_plain s c.loop-k.i (sym (c.is_plain-plain.ensures ∙ ap is_plain c.peek-b.ensures) ∙ c.if-plain.true))

pub returns-then-b-eq-QUOTE : goal.returns-then-b-eq-QUOTE
unfolding char_adds
returns-then-b-eq-QUOTE c =
    let a = c.args in
    let s = a.text.now in
    let i = c.loop-k.i in
    let q = quote_ends s i (byte s i) (sym c.peek-b.ensures ∙ c.if-b-eq-QUOTE.true) in
    sym (c.loop-k.invariant.2 ∙ rw (done_tree (char_turn s) _ _ _ c.loop-k-test.true q, q) (eq_rest a.word.now c.loop-k.o c.loop-k.invariant.1))

pub char_is-m-requires : goal.char_is-m-requires
char_is-m-requires c =
    let s = c.args.text.now in
    (subst (PastNext s (suc c.loop-k.i)) (sym c.character-n.ensures ∙ c.in-Continue.is) (char_past s c.loop-k.i)).1

pub returns-in-None : goal.returns-in-None
unfolding char_adds going_on
returns-in-None c =
    let a = c.args in
    let s = a.text.now in
    let q = sym c.character-n.ensures ∙ c.in-Continue.is in
    sym (c.loop-k.invariant.2 ∙ rw (turn_tree (char_turn s) _ _ _ c.loop-k-test.true q, q) (eq_matched (char_bytes s c.loop-k.i _ (byte s c.loop-k.i)) _ a.word.now c.loop-k.o ∙ ap (going_on _ a.word.now) (sym c.char_is-m.ensures ∙ c.in-None.is)))

pub returns-in-Break : goal.returns-in-Break
unfolding char_adds
returns-in-Break c =
    let a = c.args in
    let s = a.text.now in
    let q = sym c.character-n.ensures ∙ c.in-Break.is in
    sym (c.loop-k.invariant.2 ∙ rw (done_tree (char_turn s) _ _ _ c.loop-k-test.true q, q) (eq_rest a.word.now c.loop-k.o c.loop-k.invariant.1))

pub loop-k-preserved : goal.loop-k-preserved
unfolding char_adds going_on
loop-k-preserved c =
    let a = c.args in
    let s = a.text.now in
    let i = c.loop-k.i in
    let bs = char_bytes s i c.if-plain.i (byte s i) in
    let is = c.is_plain-plain.ensures ∙ ap is_plain c.peek-b.ensures in
    let on : (char_turn s i).next ≡ Continue c.if-plain.i = ⊎_elim
    (λ w. plain_next s i (byte s i) (sym is ∙ w.if-plain.true) ∙ ap Continue (sym w.i-is))
    (λ w. sym w.character-n.ensures ∙ w.in-Continue.is ∙ ap Continue (sym w.i-is))
    c.if-plain.branch-raw in
    let m : matched bs a.word.now c.loop-k.o ≡ Some c.if-plain.o = ⊎_elim
    (λ w. let plain = sym is ∙ w.if-plain.true in rw (w.i-is, w.o-is, plain_bytes s i plain) (matched_byte _ _ _ (omega (arith, (plain_is (byte s i) plain).1)) (sym c.peek-b.ensures ∙ w.if-b-c.false ∙ w.peek-c.ensures)))
    (λ w. rw (w.i-is, w.o-is) (sym w.char_is-m.ensures ∙ w.in-Some.is))
    c.if-plain.branch-raw in
    (omega arith, matched_le bs a.word.now c.loop-k.o _ c.loop-k.invariant.1 m, c.loop-k.invariant.2 ∙ rw (turn_tree (char_turn s) _ _ _ c.loop-k-test.true on, on) (eq_matched bs _ a.word.now c.loop-k.o ∙ ap (going_on _ a.word.now) m))

pub returns : goal.returns
returns c =
    let a = c.args in
    sym (c.loop-k.invariant.2 ∙ rw (spent_tree (char_turn a.text.now) _ _ _ c.loop-k-test.false) (eq_rest a.word.now c.loop-k.o c.loop-k.invariant.1))
