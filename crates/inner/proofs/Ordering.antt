-- Working rows in order: their keys ascend just where the rows that they stand for are sorted. Assumes nothing.
use Rattle.std.specs.Prelude.{Some}
use mathlib.Core.Path.{◌≡◌, refl, sym, ap, ◌∙◌}
use mathlib.Core.List.{List, [], ◌∷◌, map}
use Prim.Native.Nat.{ℕ, zero, suc, ◌+◌, ◌≤◌, ◌<◌}
use native.Mathlib.Omega.{arith}
use borrow.Author.Tests.{eq-eqb, ne_eqb}
use lib.ListN.{length, get_or, take, get_or-map, length-map}
use lib.Seq.{get_or-take, length-take-le}
use Rattle.model.specs.Schema.{Schema}
use Rattle.model.specs.Rows.{Row, key}
use Rattle.model.specs.Areas.{row_from}
use Rattle.model.proofs.Order as rows
use Rattle.model.proofs.Order.{Sorted}
use Rattle.inner.specs.Working.{working, key_in, Above, Ascending, Ordered, place_from, place, removed}
use Rattle.inner.proofs.Working.{row_key, working_at, working_length}
use Rattle.inner.proofs.Places.{map_removed}

-- ── rows are sorted where their keys ascend ──
above_keys : (k : ℕ) (l : List Row) → rows.Above k l → Above k (map key l)
above_keys k [] h = tt
above_keys k (r ∷ l) h = (h.0, above_keys k l h.1)

keys_above : (k : ℕ) (l : List Row) → Above k (map key l) → rows.Above k l
keys_above k [] h = tt
keys_above k (r ∷ l) h = (h.0, keys_above k l h.1)

pub sorted_keys : (l : List Row) → Sorted l → Ascending (map key l)
sorted_keys [] h = tt
sorted_keys (r ∷ l) h = (above_keys (key r) l h.0, sorted_keys l h.1)

pub keys_sorted : (l : List Row) → Ascending (map key l) → Sorted l
keys_sorted [] h = tt
keys_sorted (r ∷ l) h = (keys_above (key r) l h.0, keys_sorted l h.1)

-- ── and so are those that cells stand for ──
keys_of : (s : Schema) (l : List (List (List ℕ))) → map key (map (row_from s) l) ≡ map key_in l
keys_of s [] = refl
keys_of s (r ∷ l) = λ i. row_key s r i ∷ keys_of s l i

module _ (s : Schema) (n : ℕ) (cells : List (List (List ℕ))) where
  pub working_keys : map key (working s n cells) ≡ map key_in (take n cells)
  unfolding working
  working_keys = keys_of s (take n cells)

  pub ordered_sorted : Ordered n cells → Sorted (working s n cells)
  ordered_sorted o = keys_sorted (working s n cells) (rw working_keys o.ascending)

  pub sorted_ordered : n ≤ length cells → Sorted (working s n cells) → Ordered n cells
  sorted_ordered h o = record { there = h; ascending = rw (← working_keys) (sorted_keys (working s n cells) o) }

-- rows of the same keys are in order together
pub keys_ordered : (n m : ℕ) (cells next : List (List (List ℕ))) → m ≤ length next → map key_in (take m next) ≡ map key_in (take n cells) → Ordered n cells → Ordered m next
keys_ordered n m cells next h e o = record { there = h; ascending = rw e o.ascending }

-- ── one taken out ──
above_removed : (k i : ℕ) (l : List ℕ) → Above k l → Above k (removed i l)
above_removed k zero [] h = tt
above_removed k zero (x ∷ l) h = h.1
above_removed k (suc i) [] h = tt
above_removed k (suc i) (x ∷ l) h = (h.0, above_removed k i l h.1)

ascending_removed : (i : ℕ) (l : List ℕ) → Ascending l → Ascending (removed i l)
ascending_removed zero [] h = tt
ascending_removed zero (x ∷ l) h = h.1
ascending_removed (suc i) [] h = tt
ascending_removed (suc i) (x ∷ l) h = (above_removed x i l h.0, ascending_removed i l h.1)

pub removed_ordered : (n m i : ℕ) (cells next : List (List (List ℕ))) → m ≤ length next → take m next ≡ removed i (take n cells) → Ordered n cells → Ordered m next
removed_ordered n m i cells next h e o = record { there = h; ascending = rw (e, map_removed key_in i (take n cells)) (ascending_removed i (map key_in (take n cells)) o.ascending) }

-- ── a row and the one after it ──
above_get : (k : ℕ) (l : List ℕ) (i : ℕ) → Above k l → i < length l → k < get_or l i 0
above_get k [] i h g = absurd (omega arith)
above_get k (x ∷ l) zero h g = h.0
above_get k (x ∷ l) (suc i) h g = above_get k l i h.1 (omega arith)

ascending_next : (l : List ℕ) (i : ℕ) → Ascending l → suc i < length l → get_or l i 0 < get_or l (suc i) 0
ascending_next [] i h g = absurd (omega arith)
ascending_next (x ∷ l) zero h g = above_get x l 0 h.0 (omega arith)
ascending_next (x ∷ l) (suc i) h g = ascending_next l i h.1 (omega arith)

-- ── each row of sorted ones is found at its own place ──
above_at : (k : ℕ) (l : List Row) (i : ℕ) (d : Row) → rows.Above k l → i < length l → k < key (get_or l i d)
above_at k [] i d h g = absurd (omega arith)
above_at k (r ∷ l) zero d h g = h.0
above_at k (r ∷ l) (suc i) d h g = above_at k l i d h.1 (omega arith)

own_from : (j : ℕ) (l : List Row) (i : ℕ) (d : Row) → Sorted l → i < length l → place_from j (key (get_or l i d)) l ≡ Some (j + i)
own_from j [] i d o h = absurd (omega arith)
own_from j (r ∷ l) zero d o h = let e : j ≡ j + 0 = omega arith in rw (eq-eqb (key r) (key r) refl, place_from) (ap Some e)
own_from j (r ∷ l) (suc i) d o h =
    let a = above_at (key r) l i d o.0 (omega arith) in
    let e : suc j + i ≡ j + suc i = omega arith in
    rw (ne_eqb (key (get_or l i d)) (key r) (λ q. omega (arith, a, q)), place_from) (own_from (suc j) l i d o.1 (omega arith) ∙ ap Some e)

pub place_own : (l : List Row) (i : ℕ) (d : Row) → Sorted l → i < length l → place (key (get_or l i d)) l ≡ Some i
unfolding place
place_own l i d o h = let e : 0 + i ≡ i = omega arith in own_from 0 l i d o h ∙ ap Some e

-- ── in cells ──
module _ (n : ℕ) (cells : List (List (List ℕ))) (o : Ordered n cells) where
  key_at : (i : ℕ) → i < n → get_or (map key_in (take n cells)) i (key_in []) ≡ key_in (get_or cells i [])
  key_at i h = get_or-map key_in (take n cells) i [] ∙ ap key_in (get_or-take n cells i [] h)

  pub ordered_next : (i : ℕ) → suc i < n → key_in (get_or cells i []) < key_in (get_or cells (suc i) [])
  ordered_next i h =
      let l = map key_in (take n cells) in
      let size : length l ≡ n = length-map (take n cells) key_in ∙ length-take-le n cells o.there in
      omega (arith, ascending_next l i o.ascending (omega (arith, size, h)), get_any l i 0 (key_in []) (omega (arith, size, h)), get_any l (suc i) 0 (key_in []) (omega (arith, size, h)), key_at i (omega (arith, h)), key_at (suc i) h)
    where
      get_any : (l : List ℕ) (i d e : ℕ) → i < length l → get_or l i d ≡ get_or l i e
      get_any [] i d e g = absurd (omega arith)
      get_any (x ∷ l) zero d e g = refl
      get_any (x ∷ l) (suc i) d e g = get_any l i d e (omega arith)

  pub own_place : (s : Schema) (i : ℕ) → i < n → place (key_in (get_or cells i [])) (working s n cells) ≡ Some i
  own_place s i h =
      let d : Row = row_from s [] in
      let e : key (get_or (working s n cells) i d) ≡ key_in (get_or cells i []) = ap key (working_at s cells n o.there i d h) ∙ row_key s (get_or cells i []) in
      ap (λ (k : ℕ). place k (working s n cells)) (sym e) ∙ place_own (working s n cells) i d (ordered_sorted s n cells o) (omega (arith, working_length s cells n o.there, h))
