-- What an arrival carries and asks, by its kind. Assumes nothing.
use Rattle.std.specs.Prelude.{Option, Some, None}
use mathlib.Core.Path.{◌≡◌, refl, sym, ap, ◌∙◌}
use mathlib.Core.Bool.{Bool, true, false, not, ◌&&◌}
use mathlib.Core.List.{List, [], ◌∷◌, map}
use Prim.Native.Nat.{ℕ, zero, suc, ◌+◌, ◌*◌, ◌≤◌, ◌<◌}
use native.Mathlib.Omega.{arith}
use borrow.Author.Tests.{ltb-true}
use lib.Dec.{ltb}
use lib.ListN.{length, get_or, take, drop, length-map, length-drop}
use lib.Seq.{length-take-le, get_or-take, get_or-drop}
use Rattle.catalog.specs.Accepted.{Accepted}
use Rattle.catalog.proofs.Laws.{few_tables, few_columns_lem}
use Rattle.model.specs.Octets.{value}
use Rattle.model.specs.Base.{nth}
use Rattle.model.specs.Schema.{Column, Schema, Table, columns_of}
use Rattle.model.specs.Value.{canonical_for}
use Rattle.model.specs.Records.{column, Record, numbered, mark}
use Rattle.model.specs.Rows.{key_of, has, has_id}
use Rattle.inner.specs.Working.{working}
use Rattle.inner.proofs.Working.{working_length}
use Rattle.model.specs.Limits.{most_tables, most_columns, entry_count}
use Rattle.model.specs.Catalog.{column_from, table_from, tables_from, packed_tables, table_count, column_count, column_place}
use Rattle.model.proofs.Tests.{and_l, and_r}
use Rattle.record.specs.Reading.{id_in, atoms_in, arrival_record, column_counts, canonical_in, known_in, listed_in, listed_record}
use Rattle.record.specs.declared.Born as record-born
use Rattle.record.specs.declared.Gone as record-gone
use Rattle.record.specs.declared.Column as record-column
use Rattle.record.specs.declared.Arrival.{Arrival}
use Rattle.record.specs.declared.Arrival.TheVariants as arrival
use Rattle.record.proofs.Listings.{known_table}
use Rattle.record.proofs.Soundness.{sound_listed, allows_at}
use Rattle.catalog.specs.Entries.{columns_at}
use Rattle.area.proofs.Schemas.{tables_count, columns_in}
use Rattle.arrival.specs.Steps.{canonical_record, sound_record, fits_record}

-- ── the schema's cells ──
-- a table's columns lie in whole in the cells
pub cells_length : (cells : List (List ℕ)) (t : ℕ) → length cells ≡ entry_count → t < most_tables → column_count cells t ≤ most_columns → length (columns_at cells t) ≡ column_count cells t
cells_length cells t e h l = length-take-le (column_count cells t) (drop (5 + 6 * t) cells) (omega (arith, length-drop (5 + 6 * t) cells))

module _ (cells : List (List ℕ)) (held : Accepted cells) where
  abbrev s : Schema
  s = packed_tables cells

  abbrev tables : ℕ
  tables = table_count cells

  abbrev columns : ℕ → ℕ
  columns t = column_count cells t

  pub columns_count : (t : ℕ) → t < tables → length (columns_of s t) ≡ columns t
  columns_count t h =
      let f = few_tables _ (held) in
      ap length (columns_in cells t h) ∙ length-map (columns_at cells t) column_from ∙ cells_length cells t held.size (omega arith) (few_columns_lem _ (held) t (omega arith))

  -- column c of table t is in its entry
  pub column_in_lem : (t c : ℕ) → t < tables → c < columns t → nth (columns_of s t) c ≡ Some (column_from (get_or cells (column_place t c) []))
  column_in_lem t c h g =
      let f = few_tables _ (held) in
      let l = cells_length cells t held.size (omega arith) (few_columns_lem _ (held) t (omega arith)) in
      ap (λ (x : List Column). nth x c) (columns_in cells t h)
      ∙ nth_map (columns_at cells t) c (omega arith)
      ∙ ap (λ (x : List ℕ). Some (column_from x)) (get_or-take (columns t) (drop (5 + 6 * t) cells) c [] g ∙ get_or-drop (5 + 6 * t) cells c [])
    where
      nth_map : (l : List (List ℕ)) (c : ℕ) → c < length l → nth (map column_from l) c ≡ Some (column_from (get_or l c []))
      nth_map [] c h = absurd (omega arith)
      nth_map (x ∷ l) zero h = refl
      nth_map (x ∷ l) (suc c) h = nth_map l c (omega arith)

  -- how many columns each table has, one after another
  count : (t : ℕ) → t < 4 → columns t ≡ length (table_from cells t).columns
  unfolding table_from
  count t h =
      let e : 5 + 6 * t + 0 ≡ 5 + 6 * t = omega arith in
      sym (length-map (take (columns t) (drop (5 + 6 * t + 0) cells)) column_from ∙ ap (λ (k : ℕ). length (take (columns t) (drop k cells))) e ∙ cells_length cells t held.size h (few_columns_lem _ (held) t h))

  counts_to : (k : ℕ) → k ≤ 4 → take k (columns 0 ∷ columns 1 ∷ columns 2 ∷ columns 3 ∷ []) ≡ column_counts (tables_from cells 0 k)
  counts_to zero h = refl
  counts_to (suc zero) h = λ j. count 0 (omega arith) j ∷ []
  counts_to (suc (suc zero)) h = λ j. count 0 (omega arith) j ∷ count 1 (omega arith) j ∷ []
  counts_to (suc (suc (suc zero))) h = λ j. count 0 (omega arith) j ∷ count 1 (omega arith) j ∷ count 2 (omega arith) j ∷ []
  counts_to (suc (suc (suc (suc zero)))) h = λ j. count 0 (omega arith) j ∷ count 1 (omega arith) j ∷ count 2 (omega arith) j ∷ count 3 (omega arith) j ∷ []
  counts_to (suc (suc (suc (suc (suc k))))) h = absurd (omega arith)

  pub counts : take tables (columns 0 ∷ columns 1 ∷ columns 2 ∷ columns 3 ∷ []) ≡ column_counts s
  counts = counts_to tables (few_tables _ (held))

  -- a column record that the schema lists: its table, its column, and the test of its value
  module _ (a : Arrival) (bytes : List ℕ) (r : record-column.Column) (e : a ≡ arrival.Column r) (h : listed_record (column_counts s) (arrival_record a bytes) ≡ true) where
    listed_parts : listed_in (column_counts s) (column r.table (value (id_in bytes)) r.column (record { count = r.count; atoms = atoms_in bytes })) ≡ true
    unfolding arrival_record listed_record
    listed_parts = rw e at h

    pub listed_table : r.table < tables
    unfolding listed_in
    listed_table = rw (length-map s (λ (t : Table). length t.columns), tables_count cells 0 tables) at (known_table (length (column_counts s)) r.table (value (id_in bytes)) (and_l _ _ listed_parts))

    pub listed_column : r.column < columns r.table
    unfolding listed_in
    listed_column = rw (count_at s r.table, columns_count r.table listed_table) at (ltb-true r.column (get_or (column_counts s) r.table 0) (and_r (known_in (length (column_counts s)) r.table (value (id_in bytes))) (ltb r.column (get_or (column_counts s) r.table 0)) listed_parts))
      where
        count_at : (s : Schema) (t : ℕ) → get_or (column_counts s) t 0 ≡ length (columns_of s t)
        count_at [] t = refl
        count_at (x ∷ s) zero = refl
        count_at (x ∷ s) (suc t) = count_at s t

    pub listed_place : (r.table < most_tables) × (r.column < most_columns)
    listed_place =
        let t : r.table < most_tables = omega (arith, listed_table, few_tables _ (held)) in
        (t, omega (arith, listed_column, few_columns_lem _ (held) r.table t))

    pub canonical_column : canonical_for (column_from (get_or cells (column_place r.table r.column) [])) (record { count = r.count; atoms = atoms_in bytes }) ≡ canonical_record s (arrival_record a bytes)
    unfolding arrival_record canonical_record canonical_in
    canonical_column = rw e (sym (allows_at (columns_of s r.table) r.column (record { count = r.count; atoms = atoms_in bytes }) (column_from (get_or cells (column_place r.table r.column) [])) (column_in_lem r.table r.column listed_table listed_column)))

-- ── what makes a record sound ──
module _ (s : Schema) where
  pub sound_is : (o : Option Record) → sound_record s o ≡ (listed_record (column_counts s) o && canonical_record s o)
  unfolding sound_record listed_record canonical_record
  sound_is None = refl
  sound_is (Some (numbered u k e)) = sound_listed s e
  sound_is (Some (mark u k)) = refl

  pub sound_not : (o : Option Record) → listed_record (column_counts s) o ≡ false → sound_record s o ≡ false
  sound_not o h = sound_is o ∙ ap (λ (b : Bool). b && canonical_record s o) h

  pub sound_canonical : (o : Option Record) → listed_record (column_counts s) o ≡ true → sound_record s o ≡ canonical_record s o
  sound_canonical o h = sound_is o ∙ ap (λ (b : Bool). b && canonical_record s o) h

-- ── whether a record fits the rows, by its kind ──
module _ (s : Schema) (a : Arrival) (bytes : List ℕ) (n : ℕ) (cells : List (List (List ℕ))) (h : n ≤ length cells) (b : Bool) where
  pub fits_born : (r : record-born.Born) → a ≡ arrival.Born r → b ≡ has_id (value (id_in bytes)) (working s n cells) → (not b && ltb n 32) ≡ fits_record (working s n cells) (arrival_record a bytes)
  unfolding fits_record arrival_record
  fits_born r e p = rw e (λ j. not (p j) && ltb (sym (working_length s cells n h) j) 32)

  pub fits_gone : (r : record-gone.Gone) → a ≡ arrival.Gone r → b ≡ has (key_of r.table (value (id_in bytes))) (working s n cells) → b ≡ fits_record (working s n cells) (arrival_record a bytes)
  unfolding fits_record arrival_record
  fits_gone r e p = rw e p

  pub fits_column : (r : record-column.Column) → a ≡ arrival.Column r → b ≡ has (key_of r.table (value (id_in bytes))) (working s n cells) → b ≡ fits_record (working s n cells) (arrival_record a bytes)
  unfolding fits_record arrival_record
  fits_column r e p = rw e p
