-- Rows in good order stay so: a row put in, a column set, and whatever a record that fits does. Assumes nothing.
use mathlib.Core.Path.{◌≡◌, refl, ◌∙◌, ap}
use mathlib.Core.Bool.{true, false, not}
use mathlib.Core.List.{List, [], ◌∷◌, map}
use Prim.Native.Nat.{ℕ, zero, suc, ◌<◌}
use native.Mathlib.Omega.{arith}
use borrow.Author.Tests.{ne_eqb, ltb-true, ltb-false, eqb-true, eqb-false, not-true}
use lib.Dec.{eqb, ltb}
use lib.ListN.{length, set}
use Rattle.model.specs.Limits.{most_rows}
use Rattle.model.specs.Schema.{Column, Schema, columns_of}
use Rattle.model.specs.Value.{Value, initial}
use Rattle.model.specs.Rows.{Row, key_of, key, has, has_id, add, change, initials}
use Rattle.model.specs.Records.{Change, born, gone, column, end, act, fits, known, allows, sound}
use Rattle.model.proofs.Order.{Above, Sorted, Distinct, Typed, Fine, AllFine, Good}
use Rattle.model.proofs.Tests.{split, and_l, and_r, or_l, or_r, eqb_flip}
use Rattle.model.proofs.Canonical.{initial_canonical}
use Rattle.model.proofs.Seams.{above_trans}
use Rattle.model.proofs.Heart.{key_is}
use Rattle.model.proofs.GoodOrder.{known_short}
use Rattle.model.proofs.Collected.{remove_good}

-- ── a row put in ──
other_key : (s : Schema) (r : Row) (rows : List Row) → Fine s r → AllFine s rows → has_id r.id rows ≡ false → has (key r) rows ≡ false
other_key s r [] f g h = refl
other_key s r (x ∷ rows) f g h =
    rw (ne_eqb (key r) (key x) (λ e. eqb-false r.id x.id (or_l (eqb r.id x.id) (has_id r.id rows) h) (key_is r x s f g.0 e).1))
    (other_key s r rows f g.1 (or_r (eqb r.id x.id) (has_id r.id rows) h))

add_above : (k : ℕ) (r : Row) (rows : List Row) → k < key r → Above k rows → Above k (add r rows)
add_above k r [] h a = (h, tt)
add_above k r (x ∷ rows) h a = split (ltb (key r) (key x)) (λ e. rw e (h, a)) (λ e. rw e (a.0, add_above k r rows h a.1))

add_sorted : (r : Row) (rows : List Row) → has (key r) rows ≡ false → Sorted rows → Sorted (add r rows)
add_sorted r [] n h = (tt, tt)
add_sorted r (x ∷ rows) n h =
    let d : key r ≡ key x → ⊥ = eqb-false (key r) (key x) (or_l (eqb (key r) (key x)) (has (key r) rows) n) in
    split (ltb (key r) (key x))
    (λ e.
    let l : key r < key x = ltb-true (key r) (key x) e in
    rw e ((l, above_trans (key r) (key x) rows (omega arith) h.0), h))
    (λ e. rw e (add_above (key x) r rows (omega (arith, ltb-false (key r) (key x) e)) h.0, add_sorted r rows (or_r (eqb (key r) (key x)) (has (key r) rows) n) h.1))

pub add_ids : (i : ℕ) (r : Row) (rows : List Row) → eqb i r.id ≡ false → has_id i rows ≡ false → has_id i (add r rows) ≡ false
add_ids i r [] e h = rw e
add_ids i r (x ∷ rows) e h =
    let l = or_l (eqb i x.id) (has_id i rows) h in
    split (ltb (key r) (key x)) (λ q. rw (q, e) h) (λ q. rw (q, l) (add_ids i r rows e (or_r (eqb i x.id) (has_id i rows) h)))

add_distinct : (r : Row) (rows : List Row) → has_id r.id rows ≡ false → Distinct rows → Distinct (add r rows)
add_distinct r [] n h = (refl, tt)
add_distinct r (x ∷ rows) n h =
    let l = or_l (eqb r.id x.id) (has_id r.id rows) n in
    split (ltb (key r) (key x)) (λ e. rw e (n, h))
    (λ e. rw e (add_ids x.id r rows (eqb_flip r.id x.id l) h.0, add_distinct r rows (or_r (eqb r.id x.id) (has_id r.id rows) n) h.1))

add_fine : (s : Schema) (r : Row) (rows : List Row) → Fine s r → AllFine s rows → AllFine s (add r rows)
add_fine s r [] f h = (f, tt)
add_fine s r (x ∷ rows) f h = split (ltb (key r) (key x)) (λ e. rw e (f, h)) (λ e. rw e (h.0, add_fine s r rows f h.1))

add_length : (r : Row) (rows : List Row) → length (add r rows) ≡ suc (length rows)
add_length r [] = refl
add_length r (x ∷ rows) = split (ltb (key r) (key x)) (λ e. rw e) (λ e. rw e (ap suc (add_length r rows)))

pub add_good : (s : Schema) (r : Row) (rows : List Row) → Fine s r → has_id r.id rows ≡ false → length rows < most_rows → Good s rows → Good s (add r rows)
add_good s r rows f n l g =
    record {
      sorted = add_sorted r rows (other_key s r rows f g.fine n) g.sorted;
      distinct = add_distinct r rows n g.distinct;
      fine = add_fine s r rows f g.fine;
      few = rw (add_length r rows) l;
    }

pub initials_typed : (cs : List Column) → Typed cs (map initial cs)
initials_typed [] = tt
initials_typed (c ∷ cs) = (initial_canonical c, initials_typed cs)

-- ── a column set ──
pub set_typed : (cs : List Column) (vs : List Value) (n : ℕ) (v : Value) → Typed cs vs → allows cs n v ≡ true → Typed cs (set vs n v)
set_typed [] [] n v h a = tt
set_typed [] (x ∷ vs) n v h a = absurd h
set_typed (c ∷ cs) [] n v h a = absurd h
set_typed (c ∷ cs) (x ∷ vs) zero v h a = (a, h.1)
set_typed (c ∷ cs) (x ∷ vs) (suc n) v h a = (h.0, set_typed cs vs n v h.1 a)

module _ (k c : ℕ) (v : Value) where
  change_above : (j : ℕ) (rows : List Row) → Above j rows → Above j (change k c v rows)
  change_above j [] h = tt
  change_above j (r ∷ rs) h = split (eqb k (key r)) (λ e. rw e h) (λ e. rw e (h.0, change_above j rs h.1))

  change_sorted : (rows : List Row) → Sorted rows → Sorted (change k c v rows)
  change_sorted [] h = tt
  change_sorted (r ∷ rs) h = split (eqb k (key r)) (λ e. rw e h) (λ e. rw e (change_above (key r) rs h.0, change_sorted rs h.1))

  change_ids : (i : ℕ) (rows : List Row) → has_id i (change k c v rows) ≡ has_id i rows
  change_ids i [] = refl
  change_ids i (r ∷ rs) = split (eqb k (key r)) (λ e. rw e) (λ e. rw (e, change_ids i rs))

  change_distinct : (rows : List Row) → Distinct rows → Distinct (change k c v rows)
  change_distinct [] h = tt
  change_distinct (r ∷ rs) h = split (eqb k (key r)) (λ e. rw e h) (λ e. rw e (change_ids r.id rs ∙ h.0, change_distinct rs h.1))

  change_length : (rows : List Row) → length (change k c v rows) ≡ length rows
  change_length [] = refl
  change_length (r ∷ rs) = split (eqb k (key r)) (λ e. rw e) (λ e. rw (e, change_length rs))

-- the row that a record speaks of, as it is born
abbrev pub born_row : Schema → ℕ → ℕ → Row
born_row s t i = record { table = t; id = i; columns = initials s t }

pub born_fine : (s : Schema) (t i : ℕ) → known s t i ≡ true → Fine s (born_row s t i)
born_fine s t i k = record { here = k; short = known_short s t i k; typed = initials_typed (columns_of s t) }

change_fine : (s : Schema) (t i c : ℕ) (v : Value) → known s t i ≡ true → allows (columns_of s t) c v ≡ true → (rows : List Row) → AllFine s rows → AllFine s (change (key_of t i) c v rows)
change_fine s t i c v k a [] h = tt
change_fine s t i c v k a (r ∷ rs) h = split (eqb (key_of t i) (key r))
    (λ e.
    let p : t ≡ r.table = (key_is (born_row s t i) r s (born_fine s t i k) h.0 (eqb-true (key_of t i) (key r) e)).0 in
    let b : allows (columns_of s r.table) c v ≡ true = rw p at a in
    rw e (record { here = h.0.here; short = h.0.short; typed = set_typed (columns_of s r.table) r.columns c v h.0.typed b }, h.1))
    (λ e. rw e (h.0, change_fine s t i c v k a rs h.1))

pub change_good : (s : Schema) (t i c : ℕ) (v : Value) (rows : List Row) → known s t i ≡ true → allows (columns_of s t) c v ≡ true → Good s rows → Good s (change (key_of t i) c v rows)
change_good s t i c v rows k a g =
    record {
      sorted = change_sorted (key_of t i) c v rows g.sorted;
      distinct = change_distinct (key_of t i) c v rows g.distinct;
      fine = change_fine s t i c v k a rows g.fine;
      few = rw (change_length (key_of t i) c v rows) g.few;
    }

-- ── what a record that is sound and fits does ──
pub act_good : (s : Schema) (e : Change) (rows : List Row) → sound s e ≡ true → fits e rows ≡ true → Good s rows → Good s (act s e rows)
act_good s (born t i) rows k f g =
    add_good s (born_row s t i) rows (born_fine s t i k) (not-true (has_id i rows) (and_l (not (has_id i rows)) (ltb (length rows) most_rows) f))
    (ltb-true (length rows) most_rows (and_r (not (has_id i rows)) (ltb (length rows) most_rows) f)) g
act_good s (gone t i) rows k f g = remove_good s (key_of t i) rows g
act_good s (column t i c v) rows k f g =
    change_good s t i c v rows (and_l (known s t i) (allows (columns_of s t) c v) k) (and_r (known s t i) (allows (columns_of s t) c v) k) g
act_good s end rows k f g = g
