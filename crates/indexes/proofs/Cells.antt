-- Indexes in the bytes of a cell. Assumes nothing.
use Rattle.std.specs.Prelude.{Option, Some, None}
use mathlib.Core.Path.{◌≡◌, refl, sym, ap, subst, ◌∙◌}
use mathlib.Core.List.{List, [], ◌∷◌, ◌++◌, map, append_assoc}
use mathlib.Core.Bool.{true, ◌&&◌}
use Prim.Native.Nat.{ℕ, zero, suc, ◌+◌, ◌≤◌}
use native.Mathlib.Omega.{arith}
use borrow.Author.Tests.{leb-true}
use lib.Dec.{leb}
use lib.ListN.{length, get_or, take, drop}
use lib.Seq.{sets, sets-eq, take_at, drop-append-add, get_or-append-add, length-take-le}
use Rattle.model.specs.Base.{all}
use Rattle.model.specs.Json.{Json}
use Rattle.inner.specs.Positions.{tree_at, well_at, first_of, next_item, items_from, items_fine}
use Rattle.model.specs.Nav.{items_in}
use Rattle.model.specs.Catalog.{index_from}
use Rattle.model.specs.SchemaText.{index_of}
use Rattle.model.proofs.Tests.{and_l, and_r}
use Rattle.nav.proofs.FirstByte.{items_in_lem}
use Rattle.nav.proofs.Walk.{walk_end, walk_rest, walk_fine}
use Rattle.indexes.specs.Indexes.{short_index, short_indexes, Index, Stored}

-- an array of four
data Four : List ℕ → Type 0 where
  four : (a b c d : ℕ) → Four (a ∷ b ∷ c ∷ d ∷ [])

is_four : (l : List ℕ) → length l ≡ 4 → Four l
is_four [] h = absurd (omega arith)
is_four (a ∷ []) h = absurd (omega arith)
is_four (a ∷ b ∷ []) h = absurd (omega arith)
is_four (a ∷ b ∷ c ∷ []) h = absurd (omega arith)
is_four (a ∷ b ∷ c ∷ d ∷ []) h = four a b c d
is_four (a ∷ b ∷ c ∷ d ∷ e ∷ l) h = absurd (omega arith)

-- at most three of more bytes
few_of : (n x y z : ℕ) (l : List ℕ) → n ≤ 3 → take n (x ∷ y ∷ z ∷ l) ≡ take n (x ∷ y ∷ z ∷ [])
few_of zero x y z l h = refl
few_of (suc zero) x y z l h = refl
few_of (suc (suc zero)) x y z l h = refl
few_of (suc (suc (suc zero))) x y z l h = refl
few_of (suc (suc (suc (suc n)))) x y z l h = absurd (omega arith)

-- what stands behind the first 36 bytes
module _ (front rest : List ℕ) (l : length front ≡ 36) where
  drop_from : (m : ℕ) → drop (36 + m) (front ++ rest) ≡ drop m rest
  drop_from m = subst (λ (k : ℕ). drop (k + m) (front ++ rest) ≡ drop m rest) l (drop-append-add front rest m)

  at_from : (m : ℕ) → get_or (front ++ rest) (36 + m) 0 ≡ get_or rest m 0
  at_from m = subst (λ (k : ℕ). get_or (front ++ rest) (k + m) 0 ≡ get_or rest m 0) l (get_or-append-add front rest m 0)

module _ (cell : List ℕ) (size : length cell ≡ 48) where
  -- what is read from the cell after
  read_back : {a b xs ys after : List ℕ} (n : ℕ) → Four a → Four b → Index a xs → Index b ys → after ≡ sets cell 36 (n ∷ (a ++ b)) → Stored cell after (take n (xs ∷ ys ∷ []))
  read_back {xs = xs} {ys = ys} {after = after} n (four x y z w) (four p q r s) ia ib e =
      let front = take 36 cell in
      let rest = n ∷ x ∷ y ∷ z ∷ w ∷ p ∷ q ∷ r ∷ s ∷ drop 45 cell in
      let l : length front ≡ 36 = length-take-le 36 cell (omega (arith, size)) in
      let k : after ≡ front ++ rest = e ∙ sets-eq (n ∷ x ∷ y ∷ z ∷ w ∷ p ∷ q ∷ r ∷ s ∷ []) cell 36 (omega (arith, size)) ∙ append_assoc front (n ∷ x ∷ y ∷ z ∷ w ∷ p ∷ q ∷ r ∷ s ∷ []) (drop 45 cell) in
      let count : get_or after 36 0 ≡ n = ap (λ (c : List ℕ). get_or c 36 0) k ∙ at_from front rest l 0 in
      let one : index_from after 37 ≡ xs =
      ap (λ (c : List ℕ). take (get_or c 37 0) (drop 38 c)) k ∙ ap (λ (m : ℕ). take m (drop 38 (front ++ rest))) (at_from front rest l 1) ∙ ap (take x) (drop_from front rest l 2) ∙ few_of x y z w _ ia.few ∙ ia.holds in
      let two : index_from after 41 ≡ ys =
      ap (λ (c : List ℕ). take (get_or c 41 0) (drop 42 c)) k ∙ ap (λ (m : ℕ). take m (drop 42 (front ++ rest))) (at_from front rest l 5) ∙ ap (take p) (drop_from front rest l 6) ∙ few_of p q r s _ ib.few ∙ ib.holds in
      record {
        front = ap (take 36) k ∙ take_at front rest 36 l;
        back = ap (drop 45) k ∙ drop_from front rest l 9;
        holds = ap (λ (m : ℕ). take m (index_from after 37 ∷ index_from after 41 ∷ [])) count ∙ ap (λ (u : List ℕ). take n (u ∷ index_from after 41 ∷ [])) one ∙ ap (λ (u : List ℕ). take n (xs ∷ u ∷ [])) two;
      }

  put_all : {a b xs ys after : List ℕ} (n : ℕ) → Index a xs → Index b ys → after ≡ sets cell 36 (n ∷ (a ++ b)) → Stored cell after (take n (xs ∷ ys ∷ []))
  put_all n ia ib e = read_back n (is_four _ ia.size) (is_four _ ib.size) ia ib e

-- no index
empty : Index (0 ∷ 0 ∷ 0 ∷ 0 ∷ []) []
empty = record { size = refl; few = omega arith; holds = refl }

none_of : (l : List Json) → length l ≡ 0 → l ≡ []
none_of [] h = refl
none_of (x ∷ l) h = absurd (omega arith)

-- at most two short indexes, as they are walked
module _ (s : List ℕ) (at : ℕ) (well : well_at s at ≡ true) (short : short_indexes (tree_at s at) ≡ true) {f : Option ℕ} (e : f ≡ first_of s 91 93 at) where
  listed : items_in (tree_at s at) ≡ items_from s f
  listed = (items_in_lem s at well).0 ∙ ap (items_from s) (sym e)

  fine : items_fine s f ≡ true
  fine = rw e (items_in_lem s at well).1

  most : length (items_from s f) ≤ 2
  unfolding short_indexes
  most = omega (arith, ap length listed, leb-true (length (items_in (tree_at s at))) 2 (and_l (leb (length (items_in (tree_at s at))) 2) _ short))

  shorts : all short_index (items_from s f) ≡ true
  unfolding short_indexes
  shorts = ap (all short_index) (sym listed) ∙ and_r (leb (length (items_in (tree_at s at))) 2) _ short

  module _ (cell : List ℕ) (size : length cell ≡ 48) (ns : List (List ℕ)) {after : List ℕ} where
    pub put_none : f ≡ None → after ≡ sets cell 36 (0 ∷ ((0 ∷ 0 ∷ 0 ∷ 0 ∷ []) ++ (0 ∷ 0 ∷ 0 ∷ 0 ∷ []))) → Stored cell after (map (index_of ns) (items_in (tree_at s at)))
    put_none h q = rw (listed ∙ walk_end s h) (put_all cell size 0 empty empty q)

  module _ {p : ℕ} (h : f ≡ Some p) where
    both : (short_index (tree_at s p) && all short_index (items_from s (next_item s p))) ≡ true
    both = ap (all short_index) (sym (walk_rest s h)) ∙ shorts

    pub first_well : well_at s p ≡ true
    first_well = (walk_fine s h fine).0

    pub first_short : short_index (tree_at s p) ≡ true
    first_short = and_l (short_index (tree_at s p)) _ both

    module _ {g : Option ℕ} (n : g ≡ next_item s p) where
      rest_is : items_in (tree_at s at) ≡ tree_at s p ∷ items_from s g
      rest_is = listed ∙ walk_rest s h ∙ ap (λ (x : Option ℕ). tree_at s p ∷ items_from s x) (sym n)

      module _ {r : ℕ} (k : g ≡ Some r) where
        pub second_well : well_at s r ≡ true
        second_well = (walk_fine s k (rw n (walk_fine s h fine).1)).0

        pub second_short : short_index (tree_at s r) ≡ true
        second_short = and_l (short_index (tree_at s r)) _ (ap (all short_index) (sym (walk_rest s k)) ∙ rw n (and_r (short_index (tree_at s p)) _ both))

        no_third : items_from s (next_item s r) ≡ []
        no_third = none_of _ (omega (arith, most, ap length listed, ap length rest_is, ap length (walk_rest s k)))

      module _ (cell : List ℕ) (size : length cell ≡ 48) (ns : List (List ℕ)) {a after : List ℕ} (ia : Index a (index_of ns (tree_at s p))) where
        pub put_one : g ≡ None → after ≡ sets cell 36 (1 ∷ (a ++ (0 ∷ 0 ∷ 0 ∷ 0 ∷ []))) → Stored cell after (map (index_of ns) (items_in (tree_at s at)))
        put_one k q = rw (rest_is, walk_end s k) (put_all cell size 1 ia empty q)

        pub put_two : {r : ℕ} {b : List ℕ} → g ≡ Some r → Index b (index_of ns (tree_at s r)) → after ≡ sets cell 36 (2 ∷ (a ++ b)) → Stored cell after (map (index_of ns) (items_in (tree_at s at)))
        put_two k ib q = rw (rest_is, walk_rest s k, no_third k) (put_all cell size 2 ia ib q)
