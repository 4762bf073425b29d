-- Marks narrowed row by row, and counted. Assumes nothing.
use mathlib.Core.Path.{◌≡◌, refl, sym, ap, ◌∙◌}
use mathlib.Core.Bool.{Bool, true, false, ◌&&◌}
use mathlib.Core.List.{List, [], ◌∷◌, ◌++◌, map, map-append}
use Prim.Native.Nat.{ℕ, zero, suc, ◌+◌, ◌≤◌, ◌<◌}
use native.Mathlib.Omega.{arith}
use lib.Dec.{eqb}
use lib.ListN.{length, get_or, take, set, length-set}
use lib.Seq.{take-suc, get_or-set_same, get_or-set_other, get_or-take, length-take-le}
use borrow.Author.Tests.{eqb-true, eqb-false}
use Rattle.std.specs.List.{filter}
use Rattle.model.specs.Base.{count}
use Rattle.model.specs.Schema.{Column, Schema, columns_of}
use Rattle.model.specs.Rows.{Row}
use Rattle.model.specs.Conditions.{Test, matches}
use Rattle.model.specs.Areas.{row_from}
use Rattle.inner.specs.Working.{working}
use Rattle.model.proofs.Tests.{split, clash}
use Rattle.marks.specs.Marks.{Narrowed, MarkedRows, marked}

below : (j i : ℕ) → j ≤ i → (j ≡ i → ⊥) → j < i
below j i l n = omega arith

-- a mark that is set is one of the marks
marked_within : (marks : List Bool) (i : ℕ) → get_or marks i false ≡ true → i < length marks
marked_within [] i h = absurd (clash false h refl)
marked_within (b ∷ l) zero h = omega arith
marked_within (b ∷ l) (suc i) h = let z = marked_within l i h in omega (arith, z)

-- ── the first i rows have been looked at ──
pub record Narrowing (p : List (List ℕ) → Bool) (rows : List (List (List ℕ))) (before now : List Bool) (i : ℕ) : Type 0 where
  pub size : length now ≡ length before
  pub done : (j : ℕ) → j < i → get_or now j false ≡ (get_or before j false && p (get_or rows j []))
  pub rest : (j : ℕ) → i ≤ j → get_or now j false ≡ get_or before j false

module _ (p : List (List ℕ) → Bool) (rows : List (List (List ℕ))) (before : List Bool) where
  pub narrowing_none : Narrowing p rows before before 0
  narrowing_none = record { size = refl; done = λ j h. absurd (omega arith); rest = λ j h. refl }

  module _ {now : List Bool} {i : ℕ} (g : Narrowing p rows before now i) where
    pub narrowing_set : {m : Bool} → get_or now i false ≡ true → m ≡ p (get_or rows i []) → Narrowing p rows before (set now i m) (i + 1)
    narrowing_set {m} t e = record {
      size = length-set now i m ∙ g.size;
      done = λ j l. split (eqb j i)
          (λ q. let z : j ≡ i = eqb-true j i q in rw z (get_or-set_same now i m false (marked_within now i t) ∙ e ∙ ap (λ b. b && p (get_or rows i [])) (sym (sym (g.rest i (omega arith)) ∙ t))))
          (λ q. let z = eqb-false j i q in get_or-set_other now i j m false z ∙ g.done j (below j i (omega arith) z));
      rest = λ j l. get_or-set_other now i j m false (λ z. omega (arith, z, l)) ∙ g.rest j (omega (arith, l));
    }

    pub narrowing_keep : get_or now i false ≡ false → Narrowing p rows before now (i + 1)
    narrowing_keep t = record {
      size = g.size;
      done = λ j l. split (eqb j i)
          (λ q. let z : j ≡ i = eqb-true j i q in rw z (t ∙ ap (λ b. b && p (get_or rows i [])) (sym (sym (g.rest i (omega arith)) ∙ t))))
          (λ q. let z = eqb-false j i q in g.done j (below j i (omega arith) z));
      rest = λ j l. g.rest j (omega (arith, l));
    }

    pub narrowing_end : i ≡ length rows → Narrowed p rows before now
    narrowing_end e = record { size = g.size; here = λ j l. g.done j (omega (arith, l, e)); beyond = λ j l. g.rest j (omega (arith, l, e)) }

-- ── the first i rows have been marked ──
pub record Marking (q : List (List ℕ) → Bool) (rows : List (List (List ℕ))) (marks : List Bool) (i : ℕ) : Type 0 where
  pub size : length marks ≡ 32
  pub done : (j : ℕ) → j < i → get_or marks j false ≡ q (get_or rows j [])

pub marking_on : {q : List (List ℕ) → Bool} {rows : List (List (List ℕ))} {marks : List Bool} {i : ℕ} {m : Bool} → Marking q rows marks i → i < 32 → m ≡ q (get_or rows i []) → Marking q rows (set marks i m) (i + 1)
marking_on {q} {rows} {marks} {i} {m} g h e = record {
  size = length-set marks i m ∙ g.size;
  done = λ j l. split (eqb j i)
      (λ t. let z : j ≡ i = eqb-true j i t in rw z (get_or-set_same marks i m false (omega (arith, g.size, h)) ∙ e))
      (λ t. let z = eqb-false j i t in get_or-set_other marks i j m false z ∙ g.done j (below j i (omega arith) z));
}

-- ── counted ──
filter_more : (l : List Bool) (b : Bool) → length (filter (λ (m : Bool). m) (l ++ b ∷ [])) ≡ length (filter (λ (m : Bool). m) l) + length (filter (λ (m : Bool). m) (b ∷ []))
filter_more [] b = omega arith
filter_more (true ∷ l) b = let z = filter_more l b in omega (arith, z)
filter_more (false ∷ l) b = filter_more l b

pub marked_list : (marks : List Bool) (n : ℕ) → n ≤ length marks → length (filter (λ (m : Bool). m) (take n marks)) ≡ marked marks n
unfolding marked
marked_list marks zero h = refl
marked_list marks (suc n) h =
    let i = marked_list marks n (omega (arith, h)) in
    ap (λ (l : List Bool). length (filter (λ (m : Bool). m) l)) (take-suc marks n false (omega (arith, h)))
    ∙ filter_more (take n marks) (get_or marks n false)
    ∙ split (get_or marks n false) (λ e. rw (marked, e) (omega (arith, i))) (λ e. rw (marked, e) (omega (arith, i)))

count_append : {A : Type 0} (q : A → Bool) (l : List A) (a : A) → count q (l ++ a ∷ []) ≡ count q l + count q (a ∷ [])
count_append q [] a = omega arith
count_append q (b ∷ l) a = split (q b) (λ e. rw e (let z = count_append q l a in omega (arith, z))) (λ e. rw e (count_append q l a))

module _ (cs : List Column) (ts : List Test) (table : ℕ) (rows : List (List (List ℕ))) (marks : List Bool) (s : Schema) (w : columns_of s table ≡ cs) where
  pub marked_count : (n : ℕ) → n ≤ length rows → MarkedRows cs ts table n rows marks → marked marks n ≡ count (matches table ts) (working s n rows)
  unfolding MarkedRows marked working
  marked_count zero h m = refl
  marked_count (suc n) h m =
      let q : Row → Bool = matches table ts in
      let r : Row = row_from s (get_or rows n []) in
      let e : get_or marks n false ≡ q r = m s w n (omega arith) in
      let i : marked marks n ≡ count q (map (row_from s) (take n rows)) = marked_count n (omega (arith, h)) (λ t v j l. m t v j (omega (arith, l))) in
      let z : count q (map (row_from s) (take (suc n) rows)) ≡ count q (map (row_from s) (take n rows)) + count q (r ∷ []) =
      ap (λ l. count q (map (row_from s) l)) (take-suc rows n [] (omega (arith, h))) ∙ ap (count q) (map-append (row_from s) (take n rows) (get_or rows n [] ∷ [])) ∙ count_append q (map (row_from s) (take n rows)) r in
      split (q r)
      (λ t. let y : count q (r ∷ []) ≡ 1 = rw t in rw (marked, e ∙ t) (omega (arith, i, z, y)))
      (λ t. let y : count q (r ∷ []) ≡ 0 = rw t in rw (marked, e ∙ t) (omega (arith, i, z, y)))

-- marks of the first n rows, lent by themselves
pub marked_front : (cs : List Column) (ts : List Test) (table n : ℕ) (rows : List (List (List ℕ))) (marks : List Bool) → MarkedRows cs ts table (length (take n rows)) (take n rows) marks → n ≤ length rows
    → MarkedRows cs ts table n rows marks
unfolding MarkedRows
marked_front cs ts table n rows marks m h s w i l = m s w i (omega (arith, l, length-take-le n rows h)) ∙ ap (λ (r : List (List ℕ)). matches table ts (row_from s r)) (get_or-take n rows i [] l)
