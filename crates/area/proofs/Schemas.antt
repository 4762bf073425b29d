-- Tables and columns in the cells of a schema, and the tests of a row by them. Assumes nothing.
use mathlib.Core.Path.{◌≡◌, refl, sym, ap, ◌∙◌}
use mathlib.Core.Bool.{Bool, true, false, not, ◌&&◌}
use mathlib.Core.List.{List, [], ◌∷◌, ◌++◌, map}
use Prim.Native.Nat.{ℕ, zero, suc, ◌+◌, ◌*◌, ◌^◌, ◌≤◌, ◌<◌}
use native.Mathlib.Numerals.{add-one}
use native.Mathlib.Omega.{arith}
use borrow.Author.Tests.{lt-ltb, le-ltb, lt-leb, le-leb, leb-true}
use lib.Dec.{eqb, ltb, leb}
use lib.ListN.{length, get_or, take, drop, length-map, drop_of_length-le}
use lib.Seq.{drop-cons, drop-drop, get_or-drop, take_all, take_at}
use Rattle.model.specs.Limits.{rows_offset}
use Rattle.model.specs.Base.{all}
use Rattle.model.specs.Schema.{Schema, columns_of}
use Rattle.model.specs.Catalog.{column_from, table_from, tables_from, packed_tables}
use Rattle.model.specs.Value.{canonical_for}
use Rattle.model.specs.Records.{known}
use Rattle.model.specs.Areas.{columns_from, row_from, values_pass, ascends, distinct_ids}
use Rattle.inner.specs.Working.{working, table_in, id_in, value_in, Ordered}
use Rattle.inner.proofs.Ordering.{sorted_ordered}
use Rattle.model.proofs.Tests.{clash, and_l, and_r}
use Rattle.model.proofs.GoodOrder.{ascends_sorted}
use Rattle.area.proofs.Copies.{rows_length}
use Rattle.area.proofs.Walks.{and_true}
use Rattle.area.specs.Layout.{rows_in, tidy_from, canonical_from, row_good, rows_good, row_count, rest_zero, part_good, rows_at, rows_read, PartRead}
use Rattle.catalog.specs.Entries.{columns_at}

pub tables_count : (cells : List (List ℕ)) (t n : ℕ) → length (tables_from cells t n) ≡ n
tables_count cells t zero = refl
tables_count cells t (suc n) = ap suc (tables_count cells (suc t) n)

columns_from_lem : (cells : List (List ℕ)) (u n t : ℕ) → t < n → columns_of (tables_from cells u n) t ≡ (table_from cells (u + t)).columns
columns_from_lem cells u zero t h = absurd (omega arith)
columns_from_lem cells u (suc n) zero h = let e : u ≡ u + 0 = omega arith in ap (λ (k : ℕ). (table_from cells k).columns) e
columns_from_lem cells u (suc n) (suc t) h =
    let e : suc u + t ≡ u + suc t = omega arith in
    columns_from_lem cells (suc u) n t (omega arith) ∙ ap (λ (k : ℕ). (table_from cells k).columns) e

-- the columns of a table are in the cells of the schema from 5 + 6 t on
pub columns_in : (cells : List (List ℕ)) (t : ℕ) → t < get_or (get_or cells 0 []) 25 0 → columns_of (packed_tables cells) t ≡ map column_from (columns_at cells t)
unfolding table_from
columns_in cells t h =
    let e : 0 + t ≡ t = omega arith in
    let f : 5 + 6 * t + 0 ≡ 5 + 6 * t = omega arith in
    columns_from_lem cells 0 (get_or (get_or cells 0 []) 25 0) t h
    ∙ ap (λ (k : ℕ). map column_from (take (get_or (get_or cells (1 + k) []) 25 0) (drop (5 + 6 * k + 0) cells))) e
    ∙ ap (λ (k : ℕ). map column_from (take (get_or (get_or cells (1 + t) []) 25 0) (drop k cells))) f

-- the values of a row, column by column
values_from : (l : List (List ℕ)) (c : ℕ) (row : List (List ℕ))
    → values_pass canonical_for (map column_from l) (columns_from (length l) (drop (17 + c) (get_or row 0 [])) (drop (1 + 4 * c) row)) ≡ canonical_from c l row
unfolding value_in
values_from [] c row = refl
values_from (cell ∷ l) c row =
    let head = get_or row 0 [] in
    let x : 17 + c + 0 ≡ 17 + c = omega arith in
    let y : 17 + c + 1 ≡ 17 + suc c = omega arith in
    let z : 1 + 4 * c + 4 ≡ 1 + 4 * suc c = omega arith in
    let a : get_or (drop (17 + c) head) 0 0 ≡ get_or head (17 + c) 0 = get_or-drop (17 + c) head 0 0 ∙ ap (λ (k : ℕ). get_or head k 0) x in
    let p : drop 1 (drop (17 + c) head) ≡ drop (17 + suc c) head = drop-drop 1 (17 + c) head ∙ ap (λ (k : ℕ). drop k head) y in
    let q : drop 4 (drop (1 + 4 * c) row) ≡ drop (1 + 4 * suc c) row = drop-drop 4 (1 + 4 * c) row ∙ ap (λ (k : ℕ). drop k row) z in
    (λ j. canonical_for (column_from cell) (record { count = a j; atoms = take 4 (drop (1 + 4 * c) row) }) && values_pass canonical_for (map column_from l) (columns_from (length l) (p j) (q j)))
    ∙ ap (λ (b : Bool). canonical_for (column_from cell) (value_in c row) && b) (values_from l (suc c) row)

and_false : (b : Bool) → (b && false) ≡ false
and_false true = refl
and_false false = refl

-- the tests of a row, one after another
module _ (schema row : List (List ℕ)) where
  abbrev id_test : Bool
  id_test = not (eqb (id_in row) 0) && ltb (id_in row) (256 ^ 16)

  abbrev s : Schema
  s = packed_tables schema

  known_is : known s (row_from s row).table (row_from s row).id ≡ (ltb (table_in row) (get_or (get_or schema 0 []) 25 0) && id_test)
  unfolding row_from table_in id_in
  known_is = ap (λ (n : ℕ). (ltb (table_in row) n && not (eqb (id_in row) 0)) && ltb (id_in row) (256 ^ 16)) (tables_count schema 0 (get_or (get_or schema 0 []) 25 0)) ∙ and_assoc (ltb (table_in row) (get_or (get_or schema 0 []) 25 0)) (not (eqb (id_in row) 0)) (ltb (id_in row) (256 ^ 16))
    where
      and_assoc : (a b c : Bool) → ((a && b) && c) ≡ (a && (b && c))
      and_assoc true b c = refl
      and_assoc false b c = refl

  abbrev values : Bool
  values = values_pass canonical_for (columns_of s (row_from s row).table) (row_from s row).columns

  good_is : row_good schema row ≡ (((ltb (table_in row) (get_or (get_or schema 0 []) 25 0) && id_test) && values) && tidy_from (length (columns_of s (table_in row))) row)
  unfolding row_good
  good_is = ap (λ (b : Bool). (b && values) && tidy_from (length (columns_of s (table_in row))) row) known_is

  pub no_table : get_or (get_or schema 0 []) 25 0 ≤ table_in row → row_good schema row ≡ false
  no_table h = good_is ∙ ap (λ (b : Bool). ((b && id_test) && values) && tidy_from (length (columns_of s (table_in row))) row) (le-ltb (table_in row) (get_or (get_or schema 0 []) 25 0) h)

  pub no_id : id_test ≡ false → row_good schema row ≡ false
  no_id h =
      good_is
      ∙ ap (λ (b : Bool). ((ltb (table_in row) (get_or (get_or schema 0 []) 25 0) && b) && values) && tidy_from (length (columns_of s (table_in row))) row) h
      ∙ ap (λ (b : Bool). (b && values) && tidy_from (length (columns_of s (table_in row))) row) (and_false (ltb (table_in row) (get_or (get_or schema 0 []) 25 0)))

  module _ (here : table_in row < get_or (get_or schema 0 []) 25 0) where
    count : length (columns_of s (table_in row)) ≡ length (columns_at schema (table_in row))
    count = ap length (columns_in schema (table_in row) here) ∙ length-map (columns_at schema (table_in row)) column_from

    values_are : values ≡ canonical_from 0 (columns_at schema (table_in row)) row
    unfolding row_from table_in
    values_are =
        (λ j. values_pass canonical_for (columns_in schema (table_in row) here j) (columns_from (count j) (drop 17 (get_or row 0 [])) (drop 1 row)))
        ∙ values_from (columns_at schema (table_in row)) 0 row

    pub not_tidy : tidy_from (length (columns_at schema (table_in row))) row ≡ false → row_good schema row ≡ false
    not_tidy h =
        good_is
        ∙ ap (λ (b : Bool). ((ltb (table_in row) (get_or (get_or schema 0 []) 25 0) && id_test) && values) && b) (ap (λ (k : ℕ). tidy_from k row) count ∙ h)
        ∙ and_false ((ltb (table_in row) (get_or (get_or schema 0 []) 25 0) && id_test) && values)

    pub all_good : id_test ≡ true → tidy_from (length (columns_at schema (table_in row))) row ≡ true → row_good schema row ≡ canonical_from 0 (columns_at schema (table_in row)) row
    all_good h g =
        good_is
        ∙ (λ j. ((lt-ltb (table_in row) (get_or (get_or schema 0 []) 25 0) here j && h j) && values_are j) && (ap (λ (k : ℕ). tidy_from k row) count ∙ g) j)
        ∙ and_true (canonical_from 0 (columns_at schema (table_in row)) row)

-- the loop over the columns
module _ (cells : List (List ℕ)) (row : List (List ℕ)) (c : ℕ) where
  canonical_step : c < length cells → canonical_from c (drop c cells) row ≡ (canonical_for (column_from (get_or cells c [])) (value_in c row) && canonical_from (c + 1) (drop (c + 1) cells) row)
  canonical_step h = rw (drop-cons cells c [] h, add-one c)

  pub canonical_on : c < length cells → canonical_for (column_from (get_or cells c [])) (value_in c row) ≡ true → canonical_from c (drop c cells) row ≡ canonical_from (c + 1) (drop (c + 1) cells) row
  canonical_on h e = canonical_step h ∙ ap (λ (b : Bool). b && canonical_from (c + 1) (drop (c + 1) cells) row) e

  pub canonical_off : c < length cells → canonical_for (column_from (get_or cells c [])) (value_in c row) ≡ false → canonical_from c (drop c cells) row ≡ false
  canonical_off h e = canonical_step h ∙ ap (λ (b : Bool). b && canonical_from (c + 1) (drop (c + 1) cells) row) e

  pub canonical_end : length cells ≤ c → canonical_from c (drop c cells) row ≡ true
  canonical_end h = rw (drop_of_length-le cells {i = c} h)

-- the tests of all rows, one after another
module _ (schema : List (List ℕ)) (n : ℕ) (rows : List (List (List ℕ))) where
  abbrev each : Bool
  each = all (row_good schema) (take n rows)

  abbrev in_order : Bool
  in_order = ascends (working (packed_tables schema) n rows)

  abbrev apart : Bool
  apart = distinct_ids (working (packed_tables schema) n rows)

  pub rows_no : each ≡ false → rows_good schema n rows ≡ false
  unfolding rows_good
  rows_no h = ap (λ (b : Bool). b && (in_order && apart)) h

  pub rows_apart : in_order ≡ false → rows_good schema n rows ≡ false
  unfolding rows_good
  rows_apart h = ap (λ (b : Bool). each && (b && apart)) h ∙ and_false each

  pub rows_all : each ≡ true → in_order ≡ true → rows_good schema n rows ≡ apart
  unfolding rows_good
  rows_all h g = λ j. h j && (g j && apart)

  pub rows_ordered : n ≤ length rows → rows_good schema n rows ≡ true → Ordered n rows
  unfolding rows_good
  rows_ordered h g = sorted_ordered (packed_tables schema) n rows h (ascends_sorted (working (packed_tables schema) n rows) (and_l in_order apart (and_r each (in_order && apart) g)))

-- only the first n rows matter
pub rows_same : (schema : List (List ℕ)) (n : ℕ) (x y : List (List (List ℕ))) → take n x ≡ y → length y ≡ n → rows_good schema n x ≡ rows_good schema n y
unfolding rows_good working
rows_same schema n x y e l =
    let f = e ∙ sym (take_all n y (omega arith)) in
    λ j. all (row_good schema) (f j) && (ascends (map (row_from (packed_tables schema)) (f j)) && distinct_ids (map (row_from (packed_tables schema)) (f j)))

-- ── the tests of the part of an area that stores and mirrors share, one after another ──
module _ (schema : List (List ℕ)) (a : List ℕ) where
  abbrev rows_test : Bool
  rows_test = rows_good schema (row_count a) (rows_in (row_count a) (drop rows_offset a))

  part_many : 32 < row_count a → part_good schema a ≡ false
  unfolding part_good
  part_many h = ap (λ (b : Bool). b && (rest_zero a && rows_test)) (lt-leb (row_count a) 32 h)

  part_rest : rest_zero a ≡ false → part_good schema a ≡ false
  unfolding part_good
  part_rest h = ap (λ (b : Bool). leb (row_count a) 32 && (b && rows_test)) h ∙ and_false (leb (row_count a) 32)

  pub part_rows : row_count a ≤ 32 → rest_zero a ≡ true → part_good schema a ≡ rows_test
  unfolding part_good
  part_rows g z = λ j. le-leb (row_count a) 32 g j && (z j && rows_test)

  module _ (before : List (List (List ℕ))) where
    -- what is read where a test fails, and where none does
    pub read_many : 32 < row_count a → PartRead a schema before before false
    unfolding rows_read
    read_many h = record { good = sym (part_many h); rows = rw (lt-leb (row_count a) 32 h); ordered = λ q. absurd (clash false q refl) }

    pub read_rest : row_count a ≤ 32 → rest_zero a ≡ false → PartRead a schema before before false
    unfolding rows_read
    read_rest g z = record { good = sym (part_rest z); rows = rw (le-leb (row_count a) 32 g, z); ordered = λ q. absurd (clash false q refl) }

    pub read_all : row_count a ≤ 32 → rest_zero a ≡ true → rows_read a before ≡ rows_at (row_count a) a ++ drop (row_count a) before
    unfolding rows_read
    read_all g z = rw (le-leb (row_count a) 32 g, z)

    -- the rows of a part in good order stand in front
    pub read_front : {after : List (List (List ℕ))} {r : Bool} → PartRead a schema before after r → r ≡ true → take (row_count a) after ≡ rows_at (row_count a) a
    unfolding part_good
    read_front p e =
        let n = row_count a in
        let few = leb n 32 in
        let h : (few && (rest_zero a && rows_test)) ≡ true = sym p.good ∙ e in
        ap (take n) (p.rows ∙ read_all (leb-true n 32 (and_l few (rest_zero a && rows_test) h)) (and_l (rest_zero a) rows_test (and_r few (rest_zero a && rows_test) h)))
        ∙ take_at (rows_at n a) (drop n before) n (rows_length n (drop rows_offset a))
