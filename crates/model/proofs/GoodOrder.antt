-- The tests of good order, and what holds of a store's rows: one says the other. Assumes nothing.
use mathlib.Core.Path.{◌≡◌, refl}
use mathlib.Core.Bool.{Bool, true, false, not, ◌&&◌}
use mathlib.Core.List.{List, [], ◌∷◌}
use Prim.Native.Nat.{ℕ, ◌^◌, ◌<◌}
use native.Mathlib.Omega.{arith}
use borrow.Author.Tests.{ltb-true, lt-ltb, leb-true, le-leb, not-true}
use lib.Dec.{eqb, ltb}
use lib.ListN.{length}
use Rattle.model.specs.Limits.{most_rows}
use Rattle.model.specs.Base.{all}
use Rattle.model.specs.Schema.{Column, Schema, columns_of}
use Rattle.model.specs.Value.{Value, elements, canonical_for, count_in_limits, all_in_limits, meets}
use Rattle.model.specs.Rows.{Row, key, has_id}
use Rattle.model.specs.Records.{known}
use Rattle.model.proofs.Order.{Above, Sorted, Distinct, Typed, Fine, AllFine, Good, Meets, AllMeet}
use Rattle.model.specs.Areas.{ascends_from, ascends, distinct_ids, values_pass, row_passes, rows_tests, rows_pass}
use Rattle.model.proofs.Tests.{clash, and_l, and_r, parts, whole}
use Rattle.model.proofs.Lists.{all_head, all_tail, all_imply}
use Rattle.model.proofs.Seams.{above_trans}

-- ── from the tests ──
ascends_above : (k : ℕ) (rows : List Row) → ascends_from k rows ≡ true → Above k rows × Sorted rows
ascends_above k [] h = (tt, tt)
ascends_above k (r ∷ rs) h =
    let l : k < key r = ltb-true k (key r) (and_l (ltb k (key r)) (ascends_from (key r) rs) h) in
    let z = ascends_above (key r) rs (and_r (ltb k (key r)) (ascends_from (key r) rs) h) in
    ((l, above_trans k (key r) rs (omega arith) z.0), z)

pub ascends_sorted : (rows : List Row) → ascends rows ≡ true → Sorted rows
ascends_sorted [] h = tt
ascends_sorted (r ∷ rs) h = ascends_above (key r) rs h

distinct_of : (rows : List Row) → distinct_ids rows ≡ true → Distinct rows
distinct_of [] h = tt
distinct_of (r ∷ rs) h = (not-true (has_id r.id rs) (and_l (not (has_id r.id rs)) (distinct_ids rs) h), distinct_of rs (and_r (not (has_id r.id rs)) (distinct_ids rs) h))

typed_of : (cs : List Column) (vs : List Value) → values_pass canonical_for cs vs ≡ true → Typed cs vs
typed_of [] [] h = tt
typed_of [] (v ∷ vs) h = absurd (clash false h refl)
typed_of (c ∷ cs) [] h = absurd (clash false h refl)
typed_of (c ∷ cs) (v ∷ vs) h = (and_l (canonical_for c v) (values_pass canonical_for cs vs) h, typed_of cs vs (and_r (canonical_for c v) (values_pass canonical_for cs vs) h))

pub known_short : (s : Schema) (t i : ℕ) → known s t i ≡ true → i < 256 ^ 16
known_short s t i h = ltb-true i (256 ^ 16) (and_r (ltb t (length s) && not (eqb i 0)) (ltb i (256 ^ 16)) h)

pub known_table : (s : Schema) (t i : ℕ) → known s t i ≡ true → t < length s
known_table s t i h = ltb-true t (length s) (and_l (ltb t (length s)) (not (eqb i 0)) (and_l (ltb t (length s) && not (eqb i 0)) (ltb i (256 ^ 16)) h))

fine_of : (s : Schema) (r : Row) → row_passes canonical_for s r ≡ true → Fine s r
fine_of s r h =
    let k = and_l (known s r.table r.id) (values_pass canonical_for (columns_of s r.table) r.columns) h in
    record {
      here = k;
      short = known_short s r.table r.id k;
      typed = typed_of (columns_of s r.table) r.columns (and_r (known s r.table r.id) (values_pass canonical_for (columns_of s r.table) r.columns) h);
    }

all_fine_of : (s : Schema) (rows : List Row) → all (row_passes canonical_for s) rows ≡ true → AllFine s rows
all_fine_of s [] h = tt
all_fine_of s (r ∷ rs) h = (fine_of s r (all_head (row_passes canonical_for s) r rs h), all_fine_of s rs (all_tail (row_passes canonical_for s) r rs h))

pub good_of : (s : Schema) (rows : List Row) → rows_pass canonical_for s rows ≡ true → Good s rows
unfolding rows_pass
good_of s rows h =
    let p = parts (rows_tests canonical_for s rows) h in
    record {
      sorted = ascends_sorted rows p.1.0;
      distinct = distinct_of rows p.1.1.0;
      fine = all_fine_of s rows p.1.1.1.0;
      few = leb-true (length rows) most_rows p.0;
    }

-- ── to the tests ──
above_ascends : (k : ℕ) (rows : List Row) → Above k rows → Sorted rows → ascends_from k rows ≡ true
above_ascends k [] a o = refl
above_ascends k (r ∷ rs) a o = rw (lt-ltb k (key r) a.0, above_ascends (key r) rs o.0 o.1)

sorted_ascends : (rows : List Row) → Sorted rows → ascends rows ≡ true
sorted_ascends [] o = refl
sorted_ascends (r ∷ rs) o = above_ascends (key r) rs o.0 o.1

of_distinct : (rows : List Row) → Distinct rows → distinct_ids rows ≡ true
of_distinct [] d = refl
of_distinct (r ∷ rs) d = rw (d.0, of_distinct rs d.1)

of_typed : (cs : List Column) (vs : List Value) → Typed cs vs → values_pass canonical_for cs vs ≡ true
of_typed [] [] h = refl
of_typed [] (v ∷ vs) h = absurd h
of_typed (c ∷ cs) [] h = absurd h
of_typed (c ∷ cs) (v ∷ vs) h = rw (h.0, of_typed cs vs h.1)

of_fine : (s : Schema) (rows : List Row) → AllFine s rows → all (row_passes canonical_for s) rows ≡ true
of_fine s [] h = refl
of_fine s (r ∷ rs) h = rw (h.0.here, of_typed (columns_of s r.table) r.columns h.0.typed, of_fine s rs h.1)

pub of_good : (s : Schema) (rows : List Row) → Good s rows → rows_pass canonical_for s rows ≡ true
unfolding rows_pass
of_good s rows g =
    whole (rows_tests canonical_for s rows) (le-leb (length rows) most_rows g.few, (sorted_ascends rows g.sorted, (of_distinct rows g.distinct, (of_fine s rows g.fine, tt))))

-- ── a value that meets its type is canonical ──
values_imply : (p q : Column → Value → Bool) → ((c : Column) (v : Value) → p c v ≡ true → q c v ≡ true) → (cs : List Column) (vs : List Value) → values_pass p cs vs ≡ true → values_pass q cs vs ≡ true
values_imply p q f [] [] h = refl
values_imply p q f [] (v ∷ vs) h = h
values_imply p q f (c ∷ cs) [] h = h
values_imply p q f (c ∷ cs) (v ∷ vs) h = rw (f c v (and_l (p c v) (values_pass p cs vs) h), values_imply p q f cs vs (and_r (p c v) (values_pass p cs vs) h))

pub meets_canonical : (c : Column) (v : Value) → meets c v ≡ true → canonical_for c v ≡ true
meets_canonical c v h =
    and_l (canonical_for c v) (count_in_limits c v.count) (and_l (canonical_for c v && count_in_limits c v.count) (all_in_limits c (elements v)) h)

pub meets_pass : (s : Schema) (rows : List Row) → rows_pass meets s rows ≡ true → rows_pass canonical_for s rows ≡ true
unfolding rows_pass
meets_pass s rows h =
    let p = parts (rows_tests meets s rows) h in
    let one : (r : Row) → row_passes meets s r ≡ true → row_passes canonical_for s r ≡ true =
    λ r e.
    let w : values_pass canonical_for (columns_of s r.table) r.columns ≡ true =
    values_imply meets canonical_for meets_canonical (columns_of s r.table) r.columns (and_r (known s r.table r.id) (values_pass meets (columns_of s r.table) r.columns) e) in
    rw (and_l (known s r.table r.id) (values_pass meets (columns_of s r.table) r.columns) e, w) in
    whole (rows_tests canonical_for s rows) (p.0, (p.1.0, (p.1.1.0, (all_imply (row_passes meets s) (row_passes canonical_for s) one rows p.1.1.1.0, tt))))

-- ── the same of values that meet their types ──
values_meet : (cs : List Column) (vs : List Value) → values_pass meets cs vs ≡ true → Meets cs vs
values_meet [] [] h = tt
values_meet [] (v ∷ vs) h = absurd (clash false h refl)
values_meet (c ∷ cs) [] h = absurd (clash false h refl)
values_meet (c ∷ cs) (v ∷ vs) h = (and_l (meets c v) (values_pass meets cs vs) h, values_meet cs vs (and_r (meets c v) (values_pass meets cs vs) h))

of_values_meet : (cs : List Column) (vs : List Value) → Meets cs vs → values_pass meets cs vs ≡ true
of_values_meet [] [] h = refl
of_values_meet [] (v ∷ vs) h = absurd h
of_values_meet (c ∷ cs) [] h = absurd h
of_values_meet (c ∷ cs) (v ∷ vs) h = rw (h.0, of_values_meet cs vs h.1)

all_meet_of : (s : Schema) (rows : List Row) → all (row_passes meets s) rows ≡ true → AllMeet s rows
all_meet_of s [] h = tt
all_meet_of s (r ∷ rs) h =
    (values_meet (columns_of s r.table) r.columns (and_r (known s r.table r.id) (values_pass meets (columns_of s r.table) r.columns) (all_head (row_passes meets s) r rs h)), all_meet_of s rs (all_tail (row_passes meets s) r rs h))

of_all_meet : (s : Schema) (rows : List Row) → AllFine s rows → AllMeet s rows → all (row_passes meets s) rows ≡ true
of_all_meet s [] f h = refl
of_all_meet s (r ∷ rs) f h = rw (f.0.here, of_values_meet (columns_of s r.table) r.columns h.0, of_all_meet s rs f.1 h.1)

pub meet_of : (s : Schema) (rows : List Row) → rows_pass meets s rows ≡ true → AllMeet s rows
unfolding rows_pass
meet_of s rows h = all_meet_of s rows (parts (rows_tests meets s rows) h).1.1.1.0

pub of_meet : (s : Schema) (rows : List Row) → Good s rows → AllMeet s rows → rows_pass meets s rows ≡ true
unfolding rows_pass
of_meet s rows g m =
    whole (rows_tests meets s rows) (le-leb (length rows) most_rows g.few, (sorted_ascends rows g.sorted, (of_distinct rows g.distinct, (of_all_meet s rows g.fine m, tt))))
