-- A row at its place: found, put in, taken out, changed; in cells and in the rows that they stand for. Assumes nothing.
use Rattle.std.specs.Prelude.{Option, Some, None}
use mathlib.Core.Path.{◌≡◌, refl, ap, ◌∙◌}
use mathlib.Core.Bool.{true, false}
use mathlib.Core.List.{List, [], ◌∷◌, ◌++◌, map, map-append}
use Prim.Native.Nat.{ℕ, zero, suc, ◌+◌, ◌<◌}
use native.Mathlib.Omega.{arith}
use lib.Dec.{eqb, ltb}
use lib.ListN.{length, get_or, take, drop, set}
use lib.Seq.{take-set-lt}
use Rattle.model.specs.Schema.{Schema}
use Rattle.model.specs.Value.{Value}
use Rattle.model.specs.Rows.{Row, key, find, has, add, remove, set_column, change}
use Rattle.model.specs.Areas.{row_from}
use Rattle.inner.specs.Working.{working, TidyRow, Tidy, place_from, place, slot, inserted, removed}
use Rattle.model.proofs.Tests.{split}

-- ── the row under a key ──
-- it lies at p: what looking for it, taking it out and changing it do
pub record Placed (k : ℕ) (rows : List Row) (p : ℕ) : Type 0 where
  pub within : p < length rows
  pub has : has k rows ≡ true
  pub find : (d : Row) → find k rows ≡ Some (get_or rows p d)
  pub remove : remove k rows ≡ removed p rows
  pub change : (c : ℕ) (v : Value) (d : Row) → change k c v rows ≡ set rows p (set_column c v (get_or rows p d))

-- there is none
pub record Absent (k : ℕ) (rows : List Row) : Type 0 where
  pub has : has k rows ≡ false
  pub find : find k rows ≡ None
  pub remove : remove k rows ≡ rows
  pub change : (c : ℕ) (v : Value) → change k c v rows ≡ rows

-- what a place says
abbrev Says : ℕ → ℕ → List Row → Option ℕ → Type 0
Says j k rows (Some i) = (p : ℕ) × (i ≡ j + p) × Placed k rows p
Says j k rows None = Absent k rows

later : (j k : ℕ) (r : Row) (rs : List Row) → eqb k (key r) ≡ false → (f : Option ℕ) → Says (suc j) k rs f → Says j k (r ∷ rs) f
later j k r rs e (Some i) (p, q, w) = (
  suc p,
  omega arith,
  record {
    within = omega (arith, w.within);
    has = rw e w.has;
    find = λ d. rw e (w.find d);
    remove = rw e (ap (λ (l : List Row). r ∷ l) w.remove);
    change = λ c v d. rw e (ap (λ (l : List Row). r ∷ l) (w.change c v d));
  },
)
later j k r rs e None w = record {
  has = rw e w.has;
  find = rw e w.find;
  remove = rw e (ap (λ (l : List Row). r ∷ l) w.remove);
  change = λ c v. rw e (ap (λ (l : List Row). r ∷ l) (w.change c v));
}

says : (j k : ℕ) (rows : List Row) → Says j k rows (place_from j k rows)
says j k [] = record { has = refl; find = refl; remove = refl; change = λ c v. refl }
says j k (r ∷ rs) = split (eqb k (key r))
    (λ e. rw (e, place_from) (0, omega arith, record { within = omega arith; has = rw e; find = λ d. rw e; remove = rw e; change = λ c v d. rw e }))
    (λ e. rw (e, place_from) (later j k r rs e (place_from (suc j) k rs) (says (suc j) k rs)))

pub place_at : (k : ℕ) (rows : List Row) (i : ℕ) → place k rows ≡ Some i → Placed k rows i
unfolding place
place_at k rows i e =
    let w : Says 0 k rows (Some i) = rw e at (says 0 k rows) in
    let q : w.0 ≡ i = omega (arith, w.1) in
    rw (← q) w.2

pub place_none : (k : ℕ) (rows : List Row) → place k rows ≡ None → Absent k rows
unfolding place
place_none k rows e = rw e at (says 0 k rows)

-- ── a new row ──
pub add_slot : (r : Row) (rows : List Row) → add r rows ≡ inserted (slot (key r) rows) r rows
add_slot r [] = refl
add_slot r (x ∷ rows) = split (ltb (key r) (key x)) (λ e. rw (e, slot)) (λ e. rw (e, slot) (ap (λ (l : List Row). x ∷ l) (add_slot r rows)))

-- ── the same in cells ──
module _ {A B : Type 0} (f : A → B) where
  pub map_take : (n : ℕ) (l : List A) → map f (take n l) ≡ take n (map f l)
  map_take zero l = refl
  map_take (suc n) [] = refl
  map_take (suc n) (a ∷ l) = ap (λ (m : List B). f a ∷ m) (map_take n l)

  pub map_drop : (n : ℕ) (l : List A) → map f (drop n l) ≡ drop n (map f l)
  map_drop zero l = refl
  map_drop (suc n) [] = refl
  map_drop (suc n) (a ∷ l) = map_drop n l

  pub map_set : (l : List A) (i : ℕ) (a : A) → map f (set l i a) ≡ set (map f l) i (f a)
  map_set [] i a = refl
  map_set (x ∷ l) zero a = refl
  map_set (x ∷ l) (suc i) a = ap (λ (m : List B). f x ∷ m) (map_set l i a)

  pub map_inserted : (i : ℕ) (a : A) (l : List A) → map f (inserted i a l) ≡ inserted i (f a) (map f l)
  map_inserted i a l = map-append f (take i l) (a ∷ drop i l) ∙ rw (map_take i l, map_drop i l)

  pub map_removed : (i : ℕ) (l : List A) → map f (removed i l) ≡ removed i (map f l)
  map_removed i l = map-append f (take i l) (drop (suc i) l) ∙ rw (map_take i l, map_drop (suc i) l)

module _ (s : Schema) (n m : ℕ) (cells next : List (List (List ℕ))) (i : ℕ) where
  pub working_inserted : (r : List (List ℕ)) → take m next ≡ inserted i r (take n cells) → working s m next ≡ inserted i (row_from s r) (working s n cells)
  unfolding working
  working_inserted r e = ap (map (row_from s)) e ∙ map_inserted (row_from s) i r (take n cells)

  pub working_removed : take m next ≡ removed i (take n cells) → working s m next ≡ removed i (working s n cells)
  unfolding working
  working_removed e = ap (map (row_from s)) e ∙ map_removed (row_from s) i (take n cells)

pub working_set : (s : Schema) (n : ℕ) (cells : List (List (List ℕ))) (i : ℕ) (r : List (List ℕ)) → i < n → working s n (set cells i r) ≡ set (working s n cells) i (row_from s r)
unfolding working
working_set s n cells i r h = ap (map (row_from s)) (take-set-lt n cells i r h) ∙ map_set (row_from s) (take n cells) i r

-- ── tidy rows ──
module _ (s : Schema) where
  pub tidy_append : (l m : List (List (List ℕ))) → Tidy s l → Tidy s m → Tidy s (l ++ m)
  tidy_append [] m h g = g
  tidy_append (r ∷ l) m h g = (h.0, tidy_append l m h.1 g)

  pub tidy_take : (n : ℕ) (l : List (List (List ℕ))) → Tidy s l → Tidy s (take n l)
  tidy_take zero l h = tt
  tidy_take (suc n) [] h = tt
  tidy_take (suc n) (r ∷ l) h = (h.0, tidy_take n l h.1)

  pub tidy_drop : (n : ℕ) (l : List (List (List ℕ))) → Tidy s l → Tidy s (drop n l)
  tidy_drop zero l h = h
  tidy_drop (suc n) [] h = tt
  tidy_drop (suc n) (r ∷ l) h = tidy_drop n l h.1

  pub tidy_set : (l : List (List (List ℕ))) (i : ℕ) (r : List (List ℕ)) → Tidy s l → TidyRow s r → Tidy s (set l i r)
  tidy_set [] i r h g = tt
  tidy_set (x ∷ l) zero r h g = (g, h.1)
  tidy_set (x ∷ l) (suc i) r h g = (h.0, tidy_set l i r h.1 g)

  pub tidy_at : (l : List (List (List ℕ))) (i : ℕ) (d : List (List ℕ)) → Tidy s l → i < length l → TidyRow s (get_or l i d)
  tidy_at [] i d h g = absurd (omega arith)
  tidy_at (x ∷ l) zero d h g = h.0
  tidy_at (x ∷ l) (suc i) d h g = tidy_at l i d h.1 (omega arith)

  pub tidy_inserted : (i : ℕ) (r : List (List ℕ)) (l : List (List (List ℕ))) → Tidy s l → TidyRow s r → Tidy s (inserted i r l)
  tidy_inserted i r l h g = tidy_append (take i l) (r ∷ drop i l) (tidy_take i l h) (g, tidy_drop i l h)

  pub tidy_removed : (i : ℕ) (l : List (List (List ℕ))) → Tidy s l → Tidy s (removed i l)
  tidy_removed i l h = tidy_append (take i l) (drop (suc i) l) (tidy_take i l h) (tidy_drop (suc i) l h)
