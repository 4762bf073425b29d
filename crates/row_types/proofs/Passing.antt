-- Rows that are in good order meet their types by the cells of a schema exactly where they pass the tests of a store's good order. Assumes nothing.
use mathlib.Core.Path.{◌≡◌, refl, sym, ap, ◌∙◌}
use mathlib.Core.Bool.{Bool, true, false, ◌&&◌}
use mathlib.Core.List.{List, [], ◌∷◌, map}
use Prim.Native.Nat.{ℕ, suc, ◌+◌, ◌*◌, ◌≤◌, ◌<◌}
use native.Mathlib.Omega.{arith}
use borrow.Author.Tests.{ltb-true, le-leb}
use lib.Dec.{leb, ltb}
use lib.ListN.{length, get_or, take, drop, length-map, length-take}
use lib.Seq.{drop-drop, get_or-drop}
use Rattle.model.specs.Base.{all}
use Rattle.model.specs.Schema.{Column, Schema, columns_of}
use Rattle.model.specs.Catalog.{column_from, packed_tables}
use Rattle.model.specs.Value.{Value, canonical_tests, canonical_for, count_in_limits, all_in_limits, elements, meets}
use Rattle.model.specs.Records.{known}
use Rattle.model.specs.Limits.{rows_offset, store_bytes}
use Rattle.model.specs.Areas.{columns_from, row_from, ascends, distinct_ids, values_pass, row_passes, rows_pass, entries_in, database_in, decode_store, store_of}
use Rattle.model.specs.Commit.{lawful}
use Rattle.inner.specs.Working.{working, table_in, value_in}
use Rattle.model.proofs.Tests.{split, and_l, and_r, parts}
use Rattle.model.proofs.Octets.{octet}
use Rattle.catalog.specs.Accepted.{is_accepted}
use Rattle.area.specs.Layout.{row_good, rows_good, row_count, rows_in, rest_zero, part_good}
use Rattle.catalog.specs.Entries.{columns_at}
use Rattle.area.specs.Writing.{when}
use Rattle.area.proofs.Copies.{rows_length}
use Rattle.area.proofs.Schemas.{tables_count, columns_in, rows_same}
use Rattle.area.proofs.Good.{Holds}
use Rattle.area.proofs.States.{part_passed, store_is}
use Rattle.row_types.specs.Met.{met_for, met_from, row_meets, rows_meet}

-- ── one value ──
-- what is canonical has at most four elements, so that the rest of the test is the same
met_is : (c : Column) (v : Value) → canonical_for c v ≡ true → met_for c v ≡ meets c v
unfolding met_for
met_is c v h =
    let few : leb v.count 4 ≡ true = (parts (canonical_tests c v) h).1.0 in
    λ j. (few ∙ sym h) j && count_in_limits c v.count && all_in_limits c (elements v)

-- ── the values of a row, column by column, by any test ──
module _ (p : Column → Value → Bool) where
  pass_from : ℕ → List (List ℕ) → List (List ℕ) → Bool
  pass_from c [] row = true
  pass_from c (cell ∷ cells) row = p (column_from cell) (value_in c row) && pass_from (suc c) cells row

  values_by : (l : List (List ℕ)) (c : ℕ) (row : List (List ℕ))
      → values_pass p (map column_from l) (columns_from (length l) (drop (17 + c) (get_or row 0 [])) (drop (1 + 4 * c) row)) ≡ pass_from c l row
  unfolding pass_from value_in
  values_by [] c row = refl
  values_by (cell ∷ l) c row =
      let head = get_or row 0 [] in
      let x : 17 + c + 0 ≡ 17 + c = omega arith in
      let y : 17 + c + 1 ≡ 17 + suc c = omega arith in
      let z : 1 + 4 * c + 4 ≡ 1 + 4 * suc c = omega arith in
      let a : get_or (drop (17 + c) head) 0 0 ≡ get_or head (17 + c) 0 = get_or-drop (17 + c) head 0 0 ∙ ap (λ (k : ℕ). get_or head k 0) x in
      let d : drop 1 (drop (17 + c) head) ≡ drop (17 + suc c) head = drop-drop 1 (17 + c) head ∙ ap (λ (k : ℕ). drop k head) y in
      let e : drop 4 (drop (1 + 4 * c) row) ≡ drop (1 + 4 * suc c) row = drop-drop 4 (1 + 4 * c) row ∙ ap (λ (k : ℕ). drop k row) z in
      (λ j. p (column_from cell) (record { count = a j; atoms = take 4 (drop (1 + 4 * c) row) }) && values_pass p (map column_from l) (columns_from (length l) (d j) (e j)))
      ∙ ap (λ (b : Bool). p (column_from cell) (value_in c row) && b) (values_by l (suc c) row)

met_pass : (l : List (List ℕ)) (c : ℕ) (row : List (List ℕ)) → pass_from canonical_for c l row ≡ true → met_from c l row ≡ pass_from meets c l row
unfolding pass_from
met_pass [] c row h = refl
met_pass (cell ∷ l) c row h =
    let k = column_from cell in
    let v = value_in c row in
    λ j.
    met_is k v (and_l (canonical_for k v) (pass_from canonical_for (suc c) l row) h) j
    && met_pass l (suc c) row (and_r (canonical_for k v) (pass_from canonical_for (suc c) l row) h) j

-- ── one row ──
module _ (schema : List (List ℕ)) where
  abbrev s : Schema
  s = packed_tables schema

  abbrev tables : ℕ
  tables = get_or (get_or schema 0 []) 25 0

  module _ (row : List (List ℕ)) (here : table_in row < tables) where
    count : length (columns_of s (table_in row)) ≡ length (columns_at schema (table_in row))
    count = ap length (columns_in schema (table_in row) here) ∙ length-map (columns_at schema (table_in row)) column_from

    values_are : (p : Column → Value → Bool) → values_pass p (columns_of s (row_from s row).table) (row_from s row).columns ≡ pass_from p 0 (columns_at schema (table_in row)) row
    unfolding row_from table_in
    values_are p =
        (λ j. values_pass p (columns_in schema (table_in row) here j) (columns_from (count j) (drop 17 (get_or row 0 [])) (drop 1 row)))
        ∙ values_by p (columns_at schema (table_in row)) 0 row

  row_is : (row : List (List ℕ)) → row_good schema row ≡ true → row_meets schema row ≡ row_passes meets s (row_from s row)
  unfolding row_good row_meets row_from table_in
  row_is row h =
      let t = (row_from s row).table in
      let i = (row_from s row).id in
      let passes = and_l (row_passes canonical_for s (row_from s row)) _ h in
      let k : known s t i ≡ true = and_l (known s t i) _ passes in
      let l : ltb t (length s) ≡ true = and_l (ltb t (length s)) _ (and_l _ _ k) in
      let m : ltb (table_in row) tables ≡ true = ap (ltb (table_in row)) (sym (tables_count schema 0 tables)) ∙ l in
      let here = ltb-true (table_in row) tables m in
      let c : pass_from canonical_for 0 (columns_at schema (table_in row)) row ≡ true = sym (values_are row here canonical_for) ∙ and_r (known s t i) _ passes in
      (λ j. m j && (met_pass (columns_at schema (table_in row)) 0 row c ∙ sym (values_are row here meets)) j)
      ∙ ap (λ (b : Bool). b && values_pass meets (columns_of s t) (row_from s row).columns) (sym k)

  -- ── all rows ──
  all_are : (l : List (List (List ℕ))) → all (row_good schema) l ≡ true → all (row_meets schema) l ≡ all (row_passes meets s) (map (row_from s) l)
  all_are [] h = refl
  all_are (row ∷ l) h = λ j. row_is row (and_l (row_good schema row) _ h) j && all_are l (and_r (row_good schema row) _ h) j

  pub rows_pass_lem : (n : ℕ) (rows : List (List (List ℕ))) → n ≤ 32 → rows_good schema n rows ≡ true → rows_meet schema n rows ≡ rows_pass meets s (working s n rows)
  unfolding rows_good rows_meet rows_pass working
  rows_pass_lem n rows few h =
      let w = map (row_from s) (take n rows) in
      let each = and_l (all (row_good schema) (take n rows)) _ h in
      let order = and_r (all (row_good schema) (take n rows)) _ h in
      let size : leb (length w) 32 ≡ true = le-leb (length w) 32 (omega (arith, length-map (take n rows) (row_from s), length-take n rows)) in
      let up : ascends w ≡ true = and_l (ascends w) (distinct_ids w) order in
      let apart : distinct_ids w ≡ true = and_r (ascends w) (distinct_ids w) order in
      all_are (take n rows) each
      ∙ sym (and_one (all (row_passes meets s) w))
      ∙ (λ j. sym size j && (sym up j && (sym apart j && (all (row_passes meets s) w && true))))
    where
      and_one : (b : Bool) → (b && true) ≡ b
      and_one true = refl
      and_one false = refl

-- ── a store's area, its schema in cells and its rows read from it ──
module _ (schema : List (List ℕ)) (a : List ℕ) (size : store_bytes ≤ length a) (bytes : all octet a ≡ true) (there : schema ≡ entries_in a) (accepted : is_accepted schema ≡ true) (rows : List (List (List ℕ))) where
  abbrev d : Schema
  d = packed_tables schema

  same : d ≡ (database_in a).tables
  same = ap packed_tables there

  abbrev n : ℕ
  n = row_count a

  module _ (good : part_good schema a ≡ true) (read : take (row_count a) rows ≡ rows_in (row_count a) (drop rows_offset a)) where
    held : Holds a
    held = part_passed schema a size bytes there accepted good

    -- the rows are those of the state
    pub rows_held : (decode_store a).rows ≡ working (packed_tables schema) (row_count a) rows
    unfolding working
    rows_held = held.rows ∙ (λ j. map (row_from (sym same j)) (sym read j))

    -- "every value is canonical and meets its type"
    pub rows_met : rows_meet schema (row_count a) rows ≡ rows_pass meets (database_in a).tables (decode_store a).rows
    unfolding part_good
    rows_met =
        let all_good : rows_good schema n (rows_in n (drop rows_offset a)) ≡ true = and_r (rest_zero a) _ (and_r (leb n 32) _ good) in
        rows_pass_lem schema n rows held.few (rows_same schema n rows (rows_in n (drop rows_offset a)) read (rows_length n (drop rows_offset a)) ∙ all_good)
        ∙ (λ j. rows_pass meets (same j) (sym rows_held j))

  -- "Good order, for a store", by the tests that the code makes
  pub store_when : length a ≡ store_bytes → (part_good schema a ≡ true → take (row_count a) rows ≡ rows_in (row_count a) (drop rows_offset a))
      → store_of a ≡ when (part_good schema a && (rows_meet schema (row_count a) rows && lawful (packed_tables schema) (working (packed_tables schema) (row_count a) rows))) (decode_store a)
  store_when long read =
      let tests = rows_meet schema n rows && lawful d (working d n rows) in
      let asked = rows_pass meets (database_in a).tables (decode_store a).rows && lawful (database_in a).tables (decode_store a).rows in
      store_is schema a size bytes there accepted long
      ∙ split
      (part_good schema a)
      (λ e. λ j. when (part_good schema a && (sym (rows_met e (read e)) j && lawful (sym same j) (rows_held e (read e) j))) (decode_store a))
      (λ e. ap (λ (b : Bool). when (b && asked) (decode_store a)) e ∙ sym (ap (λ (b : Bool). when (b && tests) (decode_store a)) e))
