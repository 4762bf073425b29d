-- `json_reader::array`, `member`, `object`, `opened` and `value` meet their contracts.
use Rattle.std.proofs.lemmas.Result.{err_from_is_err_and}
use Prim.Native.Nat.{ℕ}
use borrow.Author.Tests.{ne_eqb}
use mathlib.Core.Path.{◌≡◌, refl, sym, ap, ◌∙◌}
use native.Mathlib.Omega.{arith}
use native.Mathlib.Nat.{sub-zero}
use lib.Dec.{lit<}
use Rattle.model.specs.Scan.{and_then}
use Rattle.model.specs.Json.{dispatch, item_turn, after_item, list_at, array_at, member_at, object_at, value_at}
use Rattle.scan.proofs.Bytes.{inside_byte, inside_open}
use Rattle.scan.proofs.Items.{turn, done, spent}
use Rattle.scan.proofs.Values.{nested, nested_is, value_is}
use Rattle.scan.proofs.Ends.{then_not}
use Rattle.scan.proofs.Plain.{colon_key}
use Rattle.scan.specs.Strings.{colon_at}
use Rattle.model.specs.Strings.{string_at}
use Rattle.json_reader.proofs.Levels.{says_level, says_name}
use Rattle.json_reader.proofs.+array_member_object_opened_value.Goals as goal

pub array-overflow_add-result : goal.array-overflow_add-result
array-overflow_add-result t c =
    omega (arith, inside_byte c.args.text.now c.spaces-j.result 93 (sym c.peek-b.ensures ∙ c.if-b-eq-BRACKET_END.true) (lit< tt))

pub array-returns-then-b-eq-BRACKET_END : goal.array-returns-then-b-eq-BRACKET_END
array-returns-then-b-eq-BRACKET_END t c = record { value = rw (← c.spaces-j.ensures) (unfold list_at in rw (list_at, sym c.peek-b.ensures ∙ c.if-b-eq-BRACKET_END.true)); says_2 = c.requires.says }

pub array-loop-k-init : goal.array-loop-k-init
array-loop-k-init t c =
    (omega arith, rw (← c.spaces-j.ensures) (unfold list_at in rw (list_at, ne_eqb _ 93 (λ h. c.if-b-eq-BRACKET_END.false (c.peek-b.ensures ∙ h)), sub-zero)), c.requires.says, refl)

pub array-value-r-requires : goal.array-value-r-requires
array-value-r-requires t c =
    (omega arith, (c.requires.levels_bound, c.loop-k.invariant.2))

pub array-shape_of-ends-in-Break : goal.array-shape_of-ends-in-Break
array-shape_of-ends-in-Break t c =
    let a = c.args in
    let s = a.text.now in
    c.value-r.auto.ends ∙ c.loop-k.invariant.3

pub array-returns-in-Break : goal.array-returns-in-Break
array-returns-in-Break t c =
    let a = c.args in
    let s = a.text.now in
    record { value = sym (c.loop-k.invariant.1 ∙ done (item_turn (value_at a.levels s) s 93) _ _ _ c.loop-k-test.true (ap (after_item s 93) (sym c.value-r.ensures.value) ∙ sym c.after-n.ensures ∙ c.in-Break.is)); says_2 = c.value-r.ensures.says_2 }

pub array-loop-k-preserved : goal.array-loop-k-preserved
array-loop-k-preserved t c =
    let a = c.args in
    let s = a.text.now in
    (omega arith, c.loop-k.invariant.1 ∙ turn (item_turn (value_at a.levels s) s 93) _ _ _ c.loop-k-test.true (ap (after_item s 93) (sym c.value-r.ensures.value) ∙ sym c.after-n.ensures ∙ c.in-Continue.is), c.value-r.ensures.says_2, c.value-r.auto.ends ∙ c.loop-k.invariant.3)

pub array-shape_of-ends : goal.array-shape_of-ends
array-shape_of-ends t c = c.loop-k.invariant.3

pub array-returns : goal.array-returns
array-returns t c =
    let a = c.args in
    let s = a.text.now in
    record { value = sym (c.loop-k.invariant.1 ∙ spent (item_turn (value_at a.levels s) s 93) _ _ _ c.loop-k-test.false); says_2 = c.loop-k.invariant.2 }

pub member-returns-in_err-e : goal.member-returns-in_err-e
unfolding member_at and_then
member-returns-in_err-e t c =
    let s = c.args.text.now in
    let name = c.string-name.ensures ∙ ap (λ i. (string_at s i).read) c.spaces-i.ensures in
    let key = c.colon-r.ensures ∙ ap (colon_at s) name ∙ colon_key s c.args.at in
    record { value = (let p = err_from_is_err_and c.from_residual.result c.from_residual.ensures.1 in rw (p.1, p.2, ← key, c.in_err-e.was)); says_2 = rw c.note.ensures (says_name s _ c.requires.says c.args.at name) }

pub member-value-requires : goal.member-value-requires
member-value-requires t c =
    let s = c.args.text.now in
    let name = c.string-name.ensures ∙ ap (λ i. (string_at s i).read) c.spaces-i.ensures in
    (omega arith, (c.requires.levels_bound, rw c.note.ensures (says_name s _ c.requires.says c.args.at name)))

pub member-returns : goal.member-returns
unfolding member_at and_then
member-returns t c =
    let s = c.args.text.now in
    let name = c.string-name.ensures ∙ ap (λ i. (string_at s i).read) c.spaces-i.ensures in
    let key = c.colon-r.ensures ∙ ap (colon_at s) name ∙ colon_key s c.args.at in
    record { value = rw (← key, c.in_ok-e.was) c.value.ensures.value; says_2 = c.value.ensures.says_2 }

pub object-overflow_add-result : goal.object-overflow_add-result
object-overflow_add-result t c =
    omega (arith, inside_byte c.args.text.now c.spaces-j.result 125 (sym c.peek-b.ensures ∙ c.if-b-eq-BRACE_END.true) (lit< tt))

pub object-returns-then-b-eq-BRACE_END : goal.object-returns-then-b-eq-BRACE_END
object-returns-then-b-eq-BRACE_END t c = record { value = rw (← c.spaces-j.ensures) (unfold list_at in rw (list_at, sym c.peek-b.ensures ∙ c.if-b-eq-BRACE_END.true)); says_2 = c.requires.says }

pub object-loop-k-init : goal.object-loop-k-init
object-loop-k-init t c =
    (omega arith, rw (← c.spaces-j.ensures) (unfold list_at in rw (list_at, ne_eqb _ 125 (λ h. c.if-b-eq-BRACE_END.false (c.peek-b.ensures ∙ h)), sub-zero)), c.requires.says, refl)

pub object-member-r-requires : goal.object-member-r-requires
object-member-r-requires t c =
    (omega arith, (c.requires.levels_bound, c.loop-k.invariant.2))

pub object-shape_of-ends-in-Break : goal.object-shape_of-ends-in-Break
object-shape_of-ends-in-Break t c =
    let a = c.args in
    let s = a.text.now in
    c.member-r.auto.ends ∙ c.loop-k.invariant.3

pub object-returns-in-Break : goal.object-returns-in-Break
object-returns-in-Break t c =
    let a = c.args in
    let s = a.text.now in
    record { value = sym (c.loop-k.invariant.1 ∙ done (item_turn (member_at (value_at a.levels s) s) s 125) _ _ _ c.loop-k-test.true (ap (after_item s 125) (sym c.member-r.ensures.value) ∙ sym c.after-n.ensures ∙ c.in-Break.is)); says_2 = c.member-r.ensures.says_2 }

pub object-loop-k-preserved : goal.object-loop-k-preserved
object-loop-k-preserved t c =
    let a = c.args in
    let s = a.text.now in
    (omega arith, c.loop-k.invariant.1 ∙ turn (item_turn (member_at (value_at a.levels s) s) s 125) _ _ _ c.loop-k-test.true (ap (after_item s 125) (sym c.member-r.ensures.value) ∙ sym c.after-n.ensures ∙ c.in-Continue.is), c.member-r.ensures.says_2, c.member-r.auto.ends ∙ c.loop-k.invariant.3)

pub object-shape_of-ends : goal.object-shape_of-ends
object-shape_of-ends t c = c.loop-k.invariant.3

pub object-returns : goal.object-returns
object-returns t c =
    let a = c.args in
    let s = a.text.now in
    record { value = sym (c.loop-k.invariant.1 ∙ spent (item_turn (member_at (value_at a.levels s) s) s 125) _ _ _ c.loop-k-test.false); says_2 = c.loop-k.invariant.2 }

pub opened-returns-then-levels-eq0 : goal.opened-returns-then-levels-eq0
unfolding nested
opened-returns-then-levels-eq0 t c = record { value = rw (value_is, ← c.spaces-i.ensures, c.if-levels-eq0.true) (unfold dispatch in rw (dispatch, sym c.opening_at-k.ensures ∙ c.in-Array.is)); says_2 = c.requires.says }

pub opened-overflow_add-i : goal.opened-overflow_add-i
opened-overflow_add-i t c =
    omega (arith, inside_open c.args.text.now c.spaces-i.result (sym c.opening_at-k.ensures ∙ c.in-Array.is) (λ h. let z : ◌≡◌ {A = ℕ} 0 1 = cc in omega arith))

pub opened-array-requires : goal.opened-array-requires
opened-array-requires t c =
    (omega arith, (omega (arith, c.requires.levels_bound), c.requires.says))

pub opened-returns-then-levels-eq0-2 : goal.opened-returns-then-levels-eq0-2
unfolding nested
opened-returns-then-levels-eq0-2 t c = record { value = rw (value_is, ← c.spaces-i.ensures, c.if-levels-eq0-2.true) (unfold dispatch in rw (dispatch, sym c.opening_at-k.ensures ∙ c.in-Object.is)); says_2 = c.requires.says }

pub opened-overflow_add-i-in-Object : goal.opened-overflow_add-i-in-Object
opened-overflow_add-i-in-Object t c =
    omega (arith, inside_open c.args.text.now c.spaces-i.result (sym c.opening_at-k.ensures ∙ c.in-Object.is) (λ h. let z : ◌≡◌ {A = ℕ} 0 1 = cc in omega arith))

pub opened-object-requires : goal.opened-object-requires
opened-object-requires t c =
    (omega arith, (omega (arith, c.requires.levels_bound), c.requires.says))

pub opened-returns-in-Scalar : goal.opened-returns-in-Scalar
opened-returns-in-Scalar t c = record { value = rw (value_is, ← c.spaces-i.ensures) (unfold dispatch in rw (dispatch, sym c.opening_at-k.ensures ∙ c.in-Scalar.is) c.scalar.ensures); says_2 = c.requires.says }

pub opened-returns-else-levels-eq0 : goal.opened-returns-else-levels-eq0
opened-returns-else-levels-eq0 t c = record {
  value = rw (value_is, ← c.spaces-i.ensures)
      (unfold dispatch in rw (dispatch, sym c.opening_at-k.ensures ∙ c.in-Array.is, nested_is array_at c.args.levels _ _ c.if-levels-eq0.false) c.array.ensures.value);
  says_2 = c.array.ensures.says_2;
}

pub opened-returns-else-levels-eq0-2 : goal.opened-returns-else-levels-eq0-2
opened-returns-else-levels-eq0-2 t c = record {
  value = rw (value_is, ← c.spaces-i.ensures)
      (unfold dispatch in rw (dispatch, sym c.opening_at-k.ensures ∙ c.in-Object.is, nested_is object_at c.args.levels _ _ c.if-levels-eq0-2.false) c.object.ensures.value);
  says_2 = c.object.ensures.says_2;
}

pub value-opened-r-requires : goal.value-opened-r-requires
value-opened-r-requires t c =
    (omega arith, (c.requires.levels_bound, c.requires.says))

pub value-returns : goal.value-returns
value-returns t c = record { value = c.opened-r.ensures.value; says_2 = rw c.note.ensures (says_level c.args.text.now _ c.opened-r.ensures.says_2 c.args.at c.args.levels c.requires.levels_bound c.opened-r.ensures.value) }
