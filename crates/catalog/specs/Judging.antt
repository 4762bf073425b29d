-- What the judge of a catalog looks at, entry by entry: names, columns, tables, the database, and entries that are not in use. Together they are `is_accepted` (proofs/Judged.antt).
-- Assumes nothing: these are definitions.
use Rattle.std.specs.Prelude.{ℕ, zero, suc, ◌+◌, ◌-◌, ◌*◌, Bool, true, false, ◌&&◌, ◌||◌, List, [], ◌∷◌, ◌++◌, map, eqb, ltb, leb, length, get_or, take, drop, replicate}
use Rattle.std.specs.Int.Signed.{le_z}
use Rattle.model.specs.Octets.{big, value, part, eq_bytes}
use Rattle.model.specs.Base.{all, every, distinct, is_some, flat}
use Rattle.model.specs.Limits.{most_tables, most_columns, most_elements, most_indexes, most_index_columns, most_text_bytes}
use Rattle.model.specs.SchemaText.{is_id}
use Rattle.model.specs.Value.{from_twos}
use Rattle.model.specs.Catalog.{base_offset, refers_offset, target_offset, min_offset, max_offset, mutable_offset, low_offset, high_offset, columns_offset, root_offset, limited_offset, max_rows_offset, indexes_offset, first_index_offset, second_index_offset, tables_offset, table_place, column_place, entry_name, is_set, column_from, indexes_from, max_rows_from, name_bytes, bit, column_entry, index_bytes, number_or0, blank_entry, table_count, column_count}
use Rattle.model.specs.Sane.{sane_column, sane_index, max_rows_sane}
use Rattle.catalog.specs.Entries.{columns_at}

abbrev pub is_zero : ℕ → Bool
is_zero b = eqb b 0

-- a name that is an id, and zeros behind it
unfoldable pub name_fine : List ℕ → Bool
name_fine e = is_id (entry_name e) && all is_zero (part (1 + get_or e 0 0) (most_text_bytes - get_or e 0 0) e)

-- ── a column's entry, in a schema of n tables ──
-- it refers not at all, or as a uuid to one of the tables
unfoldable pub refers_fine : ℕ → ℕ → ℕ → ℕ → Bool
refers_fine n k how t = leb how 2 && elim (eqb how 0) [ true ↦ eqb t 0 | false ↦ ltb t n && eqb k 3 ]

unfoldable pub counts_fine : ℕ → ℕ → Bool
counts_fine min max = leb min 1 && (leb 1 max && (leb max most_elements && leb min max))

-- the limits of a boolean and of a uuid are the least and the greatest
unfoldable pub limits_fine : ℕ → ℕ → ℕ → Bool
limits_fine k low high = le_z (from_twos low) (from_twos high) && ((eqb k 0 || eqb k 2) || (eqb low 9223372036854775808 && eqb high 9223372036854775807))

unfoldable pub column_test : ℕ → List ℕ → Bool
column_test n e =
    name_fine e
    && (leb (get_or e base_offset 0) 3
    && (refers_fine n (get_or e base_offset 0) (get_or e refers_offset 0) (get_or e target_offset 0)
    && (counts_fine (get_or e min_offset 0) (get_or e max_offset 0)
    && (limits_fine (get_or e base_offset 0) (value (part low_offset 8 e)) (value (part high_offset 8 e))
    && (leb (get_or e mutable_offset 0) 1 && eqb (get_or e 47 0) 0)))))

-- which is that it keeps the rules, and has no other bytes
unfoldable pub is_column : ℕ → List ℕ → Bool
is_column n e = sane_column n (column_from e) && eq_bytes (column_entry (column_from e)) e

-- ── a table's entry ──
unfoldable pub rows_fine : ℕ → ℕ → Bool
rows_fine limited most = leb limited 1 && elim (eqb limited 0) [ true ↦ eqb most 0 | false ↦ leb 1 most && leb most 9223372036854775807 ]

-- the number of a column, or a zero that is not in use
unfoldable pub slot_fine : Bool → ℕ → ℕ → Bool
slot_fine true width c = ltb c width
slot_fine false width c = eqb c 0

-- the four bytes of an index of a table of some width, or of one that is not in use
unfoldable pub index_fine : Bool → ℕ → ℕ → ℕ → ℕ → ℕ → Bool
index_fine true width n a b c = leb 1 n && (leb n most_index_columns && (ltb a width && (slot_fine (ltb 1 n) width b && slot_fine (ltb 2 n) width c)))
index_fine false width n a b c = eqb n 0 && (eqb a 0 && (eqb b 0 && eqb c 0))

unfoldable pub head_test : List ℕ → Bool
head_test e =
    name_fine e
    && (leb (get_or e columns_offset 0) most_columns
    && (leb (get_or e root_offset 0) 1
    && (rows_fine (get_or e limited_offset 0) (value (part max_rows_offset 8 e))
    && (leb (get_or e indexes_offset 0) most_indexes
    && (index_fine (ltb 0 (get_or e indexes_offset 0)) (get_or e columns_offset 0) (get_or e first_index_offset 0) (get_or e (first_index_offset + 1) 0) (get_or e (first_index_offset + 2) 0) (get_or e (first_index_offset + 3) 0)
    && (index_fine (ltb 1 (get_or e indexes_offset 0)) (get_or e columns_offset 0) (get_or e second_index_offset 0) (get_or e (second_index_offset + 1) 0) (get_or e (second_index_offset + 2) 0) (get_or e (second_index_offset + 3) 0)
    && (eqb (get_or e 45 0) 0 && (eqb (get_or e 46 0) 0 && eqb (get_or e 47 0) 0))))))))

-- which is that it keeps the rules that its columns have no part in, and has no other bytes
abbrev pub head_bytes : List ℕ → List ℕ
head_bytes e =
    name_bytes (entry_name e)
    ++ (get_or e columns_offset 0 ∷ bit (is_set e root_offset) ∷ bit (is_some (max_rows_from e)) ∷ big 8 (number_or0 (max_rows_from e))
    ++ (length (indexes_from e) ∷ (flat (map index_bytes (indexes_from e)) ++ replicate ((1 + most_index_columns) * (most_indexes - length (indexes_from e))) 0) ++ replicate 3 0))

abbrev pub head_tests : List ℕ → List Bool
head_tests e =
    is_id (entry_name e)
    ∷ leb (get_or e columns_offset 0) most_columns
    ∷ leb (length (indexes_from e)) most_indexes
    ∷ all (sane_index (get_or e columns_offset 0)) (indexes_from e)
    ∷ max_rows_sane (max_rows_from e)
    ∷ eq_bytes (head_bytes e) e
    ∷ []

unfoldable pub is_head : List ℕ → Bool
is_head e = every (head_tests e)

-- ── the database's entry, and one that is not in use ──
unfoldable pub database_test : List ℕ → Bool
database_test e = name_fine e && (leb (get_or e tables_offset 0) most_tables && all is_zero (drop (tables_offset + 1) e))

abbrev pub database_tests : List ℕ → List Bool
database_tests e =
    is_id (entry_name e) ∷ leb (get_or e tables_offset 0) most_tables ∷ eq_bytes (name_bytes (entry_name e) ++ get_or e tables_offset 0 ∷ replicate 22 0) e ∷ []

unfoldable pub is_database : List ℕ → Bool
is_database e = every (database_tests e)

abbrev pub is_blank : List ℕ → Bool
is_blank e = eq_bytes blank_entry e

-- ── tables with their columns, and the whole ──
unfoldable pub is_table : ℕ → List (List ℕ) → ℕ → Bool
is_table n cells t =
    is_head (get_or cells (table_place t) [])
    && (all (is_column n) (columns_at cells t)
    && (distinct (map entry_name (columns_at cells t))
    && all is_blank (take (most_columns - column_count cells t) (drop (column_place t (column_count cells t)) cells))))

unfoldable pub is_unused : List (List ℕ) → ℕ → Bool
is_unused cells t = is_blank (get_or cells (table_place t) []) && all is_blank (take most_columns (drop (column_place t 0) cells))

-- table t where there are n
unfoldable pub table_fine : ℕ → List (List ℕ) → ℕ → Bool
table_fine n cells t = elim (ltb t n) [ true ↦ is_table n cells t | false ↦ is_unused cells t ]

-- tables t, t + 1, .., k of them
abbrev pub tables_fine : ℕ → List (List ℕ) → ℕ → ℕ → Bool
tables_fine n cells t zero = true
tables_fine n cells t (suc k) = table_fine n cells t && tables_fine n cells (suc t) k

unfoldable pub judged : List (List ℕ) → Bool
judged cells =
    is_database (get_or cells 0 []) && (tables_fine (table_count cells) cells 0 most_tables && distinct (map entry_name (take (table_count cells) (drop 1 cells))))
