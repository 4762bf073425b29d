-- `text::decode` meets its contract.
use Rattle.std.specs.declared.ops.ControlFlow.TheVariants.{Continue}
use Prim.Native.Nat.{suc}
use mathlib.Core.Path.{◌≡◌, refl, sym, ap, subst, ◌∙◌}
use mathlib.Core.Logic.{⊎_elim}
use native.Mathlib.Omega.{arith}
use native.Mathlib.Nat.{sub-zero}
use lib.ListN.{length}
use Rattle.model.specs.Scan.{byte}
use Rattle.model.specs.Strings.{char_turn, char_adds, char_bytes}
use Rattle.scan.specs.Strings.{is_plain}
use Rattle.scan.proofs.Plain.{inside_plain, plain_is, plain_next, quote_ends}
use Rattle.scan.proofs.Items.{turn_tree, done_tree, spent_tree}
use Rattle.scan.proofs.Past.{PastNext, char_past}
use Rattle.text.specs.Push.{Pushed}
use Rattle.text.proofs.Pushing.{all_length, pushed_append, pushed_none}
use Rattle.text.proofs.Matching.{plain_bytes}
use Rattle.text.proofs.decode.Goals as goal

pub loop-k-init : goal.loop-k-init
loop-k-init c = (omega arith, (refl, λ r o p. rw sub-zero at p))

pub overflow_cast-b : goal.overflow_cast-b
overflow_cast-b c =
    omega (arith, (plain_is c.peek-b.result (sym c.is_plain-plain.ensures ∙ c.if-plain.true)).1)

pub overflow_add-i : goal.overflow_add-i
overflow_add-i c =
    let s = c.args.text.now in
    omega (arith, inside_plain s c.loop-k.i (sym (c.is_plain-plain.ensures ∙ ap is_plain c.peek-b.ensures) ∙ c.if-plain.true))

pub shape_of-out-then-b-eq-QUOTE : goal.shape_of-out-then-b-eq-QUOTE
shape_of-out-then-b-eq-QUOTE c = c.loop-k.invariant.1.0

pub returns-then-b-eq-QUOTE : goal.returns-then-b-eq-QUOTE
unfolding char_adds
returns-then-b-eq-QUOTE c =
    let s = c.args.text.now in
    let i = c.loop-k.i in
    let q = quote_ends s i (byte s i) (sym c.peek-b.ensures ∙ c.if-b-eq-QUOTE.true) in
    c.loop-k.invariant.1.1 _ _ (rw (done_tree (char_turn s) _ _ _ c.loop-k-test.true q, q) (pushed_none _ _))

pub emit-x-requires : goal.emit-x-requires
emit-x-requires c =
    let s = c.args.text.now in
    let i = c.loop-k.i in
    (subst (PastNext s (suc i)) (sym c.character-n.ensures ∙ c.in-Continue.is) (char_past s i)).1

pub shape_of-out-in-Break : goal.shape_of-out-in-Break
shape_of-out-in-Break c = c.loop-k.invariant.1.0

pub returns-in-Break : goal.returns-in-Break
unfolding char_adds
returns-in-Break c =
    let s = c.args.text.now in
    let q = sym c.character-n.ensures ∙ c.in-Break.is in
    c.loop-k.invariant.1.1 _ _ (rw (done_tree (char_turn s) _ _ _ c.loop-k-test.true q, q) (pushed_none _ _))

pub loop-k-preserved : goal.loop-k-preserved
unfolding char_adds
loop-k-preserved c =
    let s = c.args.text.now in
    let i = c.loop-k.i in
    let is = c.is_plain-plain.ensures ∙ ap is_plain c.peek-b.ensures in
    let on : (char_turn s i).next ≡ Continue c.if-plain.i = ⊎_elim
    (λ w. plain_next s i (byte s i) (sym is ∙ w.if-plain.true) ∙ ap Continue (sym w.i-is))
    (λ w. sym w.character-n.ensures ∙ w.in-Continue.is ∙ ap Continue (sym w.i-is))
    c.if-plain.branch-raw in
    let put : Pushed c.loop-k.out c.loop-k.x (char_bytes s i c.if-plain.i (byte s i)) c.if-plain.x c.if-plain.out = ⊎_elim
    (λ w. rw (w.out-is, w.i-is, w.x-is, plain_bytes s i (sym is ∙ w.if-plain.true), ← c.peek-b.ensures) w.push-x.ensures)
    (λ w. rw (w.out-is, w.i-is, w.x-is) w.emit-x.ensures)
    c.if-plain.branch-raw in
    (omega arith, (ap length put.out ∙ all_length _ _ _ ∙ c.loop-k.invariant.1.0, λ r o q. c.loop-k.invariant.1.1 r o (rw (turn_tree (char_turn s) _ _ _ c.loop-k-test.true on, on) (pushed_append put q))))

pub shape_of-out : goal.shape_of-out
shape_of-out c = c.loop-k.invariant.1.0

pub returns : goal.returns
returns c =
    let s = c.args.text.now in
    c.loop-k.invariant.1.1 _ _ (rw (spent_tree (char_turn s) _ _ _ c.loop-k-test.false) (pushed_none _ _))
