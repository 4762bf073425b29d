-- Rows in the order of their keys, taken apart at a row: what looking, adding, removing and changing do there. Assumes nothing.
use mathlib.Core.Path.{◌≡◌, refl}
use mathlib.Core.Bool.{true}
use mathlib.Core.List.{List, [], ◌∷◌, ◌++◌}
use Prim.Native.Nat.{ℕ, ◌≤◌, ◌<◌}
use native.Mathlib.Omega.{arith}
use borrow.Author.Tests.{eq-eqb, ne_eqb, lt-ltb, le-ltb}
use lib.Dec.{eqb}
use Rattle.model.specs.Value.{Value}
use Rattle.model.specs.Rows.{Row, key, has, add, remove, change, set_column}
use Rattle.model.proofs.Order.{Above, Sorted}
use Rattle.model.proofs.Tests.{or_true}

-- every key is below k
abbrev pub Below : List Row → ℕ → Type 0
Below [] k = Unit
Below (r ∷ rs) k = (key r < k) × Below rs k

pub remove_at : (d : List Row) (r : Row) (p : List Row) → Below d (key r) → remove (key r) (d ++ r ∷ p) ≡ d ++ p
remove_at [] r p h = rw (eq-eqb (key r) (key r) refl)
remove_at (x ∷ d) r p h = rw (ne_eqb (key r) (key x) (omega arith), remove_at d r p h.1)

pub change_at : (d : List Row) (r : Row) (p : List Row) (c : ℕ) (v : Value) → Below d (key r) → change (key r) c v (d ++ r ∷ p) ≡ d ++ set_column c v r ∷ p
change_at [] r p c v h = rw (eq-eqb (key r) (key r) refl)
change_at (x ∷ d) r p c v h = rw (ne_eqb (key r) (key x) (omega arith), change_at d r p c v h.1)

pub has_at : (d : List Row) (r : Row) (p : List Row) → has (key r) (d ++ r ∷ p) ≡ true
has_at [] r p = rw (eq-eqb (key r) (key r) refl)
has_at (x ∷ d) r p = rw (has_at d r p) (or_true (eqb (key r) (key x)))

add_front : (r : Row) (p : List Row) → Above (key r) p → add r p ≡ r ∷ p
add_front r [] h = refl
add_front r (x ∷ p) h = rw (lt-ltb (key r) (key x) h.0)

pub add_at : (d : List Row) (r : Row) (p : List Row) → Below d (key r) → Above (key r) p → add r (d ++ p) ≡ d ++ r ∷ p
add_at [] r p h a = add_front r p a
add_at (x ∷ d) r p h a = rw (le-ltb (key r) (key x) (omega arith), add_at d r p h.1 a)

-- of rows in order, those before a row lie below it; a row may be left out
above_seam : (k : ℕ) (d : List Row) (r : Row) (p : List Row) → Above k (d ++ r ∷ p) → k < key r
above_seam k [] r p h = h.0
above_seam k (x ∷ d) r p h = above_seam k d r p h.1

pub below_at : (d : List Row) (r : Row) (p : List Row) → Sorted (d ++ r ∷ p) → Below d (key r)
below_at [] r p h = tt
below_at (x ∷ d) r p h = (above_seam (key x) d r p h.0, below_at d r p h.1)

above_drop : (k : ℕ) (d : List Row) (r : Row) (p : List Row) → Above k (d ++ r ∷ p) → Above k (d ++ p)
above_drop k [] r p h = h.1
above_drop k (x ∷ d) r p h = (h.0, above_drop k d r p h.1)

pub sorted_drop : (d : List Row) (r : Row) (p : List Row) → Sorted (d ++ r ∷ p) → Sorted (d ++ p)
sorted_drop [] r p h = h.1
sorted_drop (x ∷ d) r p h = (above_drop (key x) d r p h.0, sorted_drop d r p h.1)

pub sorted_rest : (d p : List Row) → Sorted (d ++ p) → Sorted p
sorted_rest [] p h = h
sorted_rest (x ∷ d) p h = sorted_rest d p h.1

pub above_trans : (j k : ℕ) (p : List Row) → j ≤ k → Above k p → Above j p
above_trans j k [] h a = tt
above_trans j k (x ∷ p) h a = (omega arith, above_trans j k p h a.1)
