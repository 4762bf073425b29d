-- Tests of all elements, one after another: zeros, blank cells, rows in order, ids all different. Assumes nothing.
use mathlib.Core.Path.{◌≡◌, refl, ap, ◌∙◌}
use mathlib.Core.Bool.{Bool, true, false, not, ◌&&◌}
use mathlib.Core.List.{List, []}
use Prim.Native.Nat.{ℕ, ◌+◌, ◌≤◌, ◌<◌}
use native.Mathlib.Numerals.{add-one}
use native.Mathlib.Omega.{arith}
use borrow.Author.Tests.{ltb-true, ltb-false}
use lib.Dec.{ltb}
use lib.ListN.{length, drop, get_or, drop_of_length-le}
use lib.Seq.{drop-cons}
use Rattle.model.specs.Base.{all}
use Rattle.model.specs.Schema.{Schema}
use Rattle.model.specs.Rows.{Row, has_id}
use Rattle.model.specs.Areas.{ascends, distinct_ids}
use Rattle.inner.specs.Working.{working, key_in, id_in}
use Rattle.model.proofs.Tests.{split}
use Rattle.inner.proofs.Working.{row_key, row_id, working_on, working_end}

and_assoc : (a b c : Bool) → (a && (b && c)) ≡ ((a && b) && c)
and_assoc true b c = refl
and_assoc false b c = refl

pub and_true : (a : Bool) → (a && true) ≡ a
and_true true = refl
and_true false = refl

module _ {A : Type 0} (q : A → Bool) (d : A) (l : List A) (i : ℕ) where
  all_step : i < length l → all q (drop i l) ≡ (q (get_or l i d) && all q (drop (i + 1) l))
  all_step h = rw (drop-cons l i d h, add-one i)

  pub all_end : length l ≤ i → all q (drop i l) ≡ true
  all_end h = rw (drop_of_length-le l {i = i} h)

  pub all_on : i < length l → q (get_or l i d) ≡ true → all q (drop i l) ≡ all q (drop (i + 1) l)
  all_on h e = all_step h ∙ ap (λ (b : Bool). b && all q (drop (i + 1) l)) e

  -- with what was found so far
  pub so_far_on : (ok : Bool) → i < length l → (ok && all q (drop i l)) ≡ ((ok && q (get_or l i d)) && all q (drop (i + 1) l))
  so_far_on ok h = ap (λ (b : Bool). ok && b) (all_step h) ∙ and_assoc ok (q (get_or l i d)) (all q (drop (i + 1) l))

  pub so_far_end : (ok : Bool) → length l ≤ i → (ok && all q (drop i l)) ≡ ok
  so_far_end ok h = ap (λ (b : Bool). ok && b) (all_end h) ∙ and_true ok

-- rows from place i on ascend from the row before it
module _ (s : Schema) (cells : List (List (List ℕ))) (n : ℕ) (h : n ≤ length cells) (i : ℕ) where
  abbrev rest : ℕ → List Row
  rest k = drop k (working s n cells)

  ascends_two : i + 1 < n → ascends (rest i) ≡ (ltb (key_in (get_or cells i [])) (key_in (get_or cells (i + 1) [])) && ascends (rest (i + 1)))
  ascends_two l =
      let e = working_on s cells n h (i + 1) l in
      rw (working_on s cells n h i (omega arith), e, row_key s (get_or cells i []), row_key s (get_or cells (i + 1) []))

  pub ascends_on : i + 1 < n → ltb (key_in (get_or cells i [])) (key_in (get_or cells (i + 1) [])) ≡ true → ascends (rest i) ≡ ascends (rest (i + 1))
  ascends_on l e = ascends_two l ∙ ap (λ (b : Bool). b && ascends (rest (i + 1))) e

  pub ascends_off : i + 1 < n → ltb (key_in (get_or cells i [])) (key_in (get_or cells (i + 1) [])) ≡ false → ascends (rest i) ≡ false
  ascends_off l e = ascends_two l ∙ ap (λ (b : Bool). b && ascends (rest (i + 1))) e

  pub ascends_end : n ≤ i + 1 → ascends (rest i) ≡ true
  ascends_end l = split (ltb i n)
      (λ e. let k = working_end s cells n h (i + 1) l in rw (working_on s cells n h i (ltb-true i n e), k))
      (λ e. rw (working_end s cells n h i (ltb-false i n e)))

  distinct_step : i < n → distinct_ids (rest i) ≡ (not (has_id (id_in (get_or cells i [])) (rest (i + 1))) && distinct_ids (rest (i + 1)))
  distinct_step l = rw (working_on s cells n h i l, row_id s (get_or cells i []))

  pub distinct_on : i < n → has_id (id_in (get_or cells i [])) (rest (i + 1)) ≡ false → distinct_ids (rest i) ≡ distinct_ids (rest (i + 1))
  distinct_on l e = distinct_step l ∙ ap (λ (b : Bool). not b && distinct_ids (rest (i + 1))) e

  pub distinct_off : i < n → has_id (id_in (get_or cells i [])) (rest (i + 1)) ≡ true → distinct_ids (rest i) ≡ false
  distinct_off l e = distinct_step l ∙ ap (λ (b : Bool). not b && distinct_ids (rest (i + 1))) e

  pub distinct_end : n ≤ i → distinct_ids (rest i) ≡ true
  distinct_end l = rw (working_end s cells n h i l)
