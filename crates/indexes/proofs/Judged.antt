-- A walk over items that counts them and judges each. Assumes nothing.
use Rattle.std.specs.Prelude.{Option, Some, None}
use mathlib.Core.Path.{◌≡◌, refl, sym, ap, ◌∙◌}
use mathlib.Core.List.{List}
use mathlib.Core.Bool.{Bool, true, false, ◌&&◌}
use Prim.Native.Nat.{ℕ, suc, ◌+◌, ◌≤◌}
use native.Mathlib.Omega.{arith}
use borrow.Author.Tests.{lt-leb, le-leb}
use lib.Dec.{leb}
use lib.ListN.{length}
use Rattle.model.specs.Base.{all}
use Rattle.model.specs.Json.{Json, null, bool, num, str, arr, obj, Named}
use Rattle.inner.specs.Positions.{tree_at, well_at, first_of, next_item, items_from, items_fine}
use Rattle.model.specs.Nav.{kind_of, is_array, items_in}
use Rattle.model.specs.SchemaText.{is_indexed, index_fits, indexes_fit}
use Rattle.model.proofs.Tests.{split, clash}
use Rattle.nav.proofs.FirstByte.{items_in_lem}
use Rattle.nav.proofs.Walk.{walk_end, walk_rest, walk_fine}
use Rattle.indexes.specs.Indexes.{few_fit}

pub record Passed (s : List ℕ) (p : Json → Bool) (xs : List Json) (n : ℕ) (g : Option ℕ) : Type 0 where
  pub size : length xs ≡ n + length (items_from s g)
  pub rest : all p xs ≡ all p (items_from s g)
  pub fine : items_fine s g ≡ true

module _ {s : List ℕ} {p : Json → Bool} where
  pub passed_start : (at : ℕ) → well_at s at ≡ true → {g : Option ℕ} → g ≡ first_of s 91 93 at → Passed s p (items_in (tree_at s at)) 0 g
  passed_start at w {g} e =
      let q = items_in_lem s at w in
      let z : items_in (tree_at s at) ≡ items_from s g = q.0 ∙ ap (items_from s) (sym e) in
      record { size = ap length z ∙ omega arith; rest = ap (all p) z; fine = rw e q.1 }

  module _ {xs : List Json} {n : ℕ} {g : Option ℕ} (so : Passed s p xs n g) where
    pub passed_end : g ≡ None → (length xs ≡ n) × (all p xs ≡ true)
    passed_end e = (omega (arith, so.size, ap length (walk_end s e)), so.rest ∙ ap (all p) (walk_end s e))

    module _ {i : ℕ} (h : g ≡ Some i) where
      pub passed_more : suc n ≤ length xs
      passed_more = omega (arith, so.size, ap length (walk_rest s h))

      pub passed_bad : p (tree_at s i) ≡ false → all p xs ≡ false
      passed_bad f = so.rest ∙ ap (all p) (walk_rest s h) ∙ rw f

      pub passed_on : {k : ℕ} {t : Option ℕ} → p (tree_at s i) ≡ true → k ≡ n + 1 → t ≡ next_item s i → Passed s p xs k t
      passed_on {k} {t} f ek et =
          rw (ek, et) (record {
            size = omega (arith, so.size, ap length (walk_rest s h));
            rest = so.rest ∙ ap (all p) (walk_rest s h) ∙ rw f;
            fine = (walk_fine s h so.fine).1;
          })

-- ── an index: a value that is no array has no items, and so too few ──
and_false : (b : Bool) → (b && false) ≡ false
and_false true = refl
and_false false = refl

and_true : (b : Bool) → (b && true) ≡ b
and_true true = refl
and_true false = refl

no_items : (j : Json) → is_array (kind_of j) ≡ false → length (items_in j) ≡ 0
unfolding kind_of items_in
no_items null h = refl
no_items (bool b) h = refl
no_items (num t) h = refl
no_items (str t) h = refl
no_items (arr xs) h = absurd (clash true refl h)
no_items (obj ms) h = refl

module _ (columns : List Named) (j : Json) where
  pub index_many : suc 3 ≤ length (items_in j) → false ≡ index_fits columns j
  unfolding index_fits
  index_many h =
      let e : leb (length (items_in j)) 3 ≡ false = lt-leb (length (items_in j)) 3 h in
      sym (rw e (rw (and_false (leb 1 (length (items_in j)))) (and_false (is_array (kind_of j)))))

  pub index_bad : all (is_indexed columns) (items_in j) ≡ false → false ≡ index_fits columns j
  unfolding index_fits
  index_bad h = sym (rw (h, and_false, and_false, and_false))

  pub index_end : {n : ℕ} → n ≤ 3 → (length (items_in j) ≡ n) × (all (is_indexed columns) (items_in j) ≡ true) → leb 1 n ≡ index_fits columns j
  unfolding index_fits
  index_end {n} h q =
      let e : leb n 3 ≡ true = le-leb n 3 h in
      split
      (is_array (kind_of j))
      (λ a. sym (rw (a, q.1, q.0, e) (and_true (leb 1 n))))
      (λ a. let z : n ≡ 0 = sym q.0 ∙ no_items j a in rw (a, z))

  -- ── indexes ──
  pub few_many : suc 2 ≤ length (items_in j) → false ≡ few_fit columns j
  unfolding few_fit
  few_many h = let e : leb (length (items_in j)) 2 ≡ false = lt-leb (length (items_in j)) 2 h in sym (rw e)

  pub few_bad : all (index_fits columns) (items_in j) ≡ false → false ≡ few_fit columns j
  unfolding few_fit
  few_bad h = sym (rw (h, and_false))

  pub few_end : {n : ℕ} → n ≤ 2 → (length (items_in j) ≡ n) × (all (index_fits columns) (items_in j) ≡ true) → true ≡ few_fit columns j
  unfolding few_fit
  few_end {n} h q = let e : leb n 2 ≡ true = le-leb n 2 h in sym (rw (q.1, q.0, e))

  pub fits_array : is_array (kind_of j) ≡ true → few_fit columns j ≡ indexes_fit columns j
  unfolding few_fit indexes_fit
  fits_array a = sym (rw a (and_all (leb (length (items_in j)) 2) (all (index_fits columns) (items_in j))))
    where
      and_all : (x y : Bool) → (x && (y && true)) ≡ (x && y)
      and_all true true = refl
      and_all true false = refl
      and_all false y = refl

  pub fits_not : is_array (kind_of j) ≡ false → false ≡ indexes_fit columns j
  unfolding indexes_fit
  fits_not a = sym (rw a)
