-- The catalog: a schema as read, in entries of 48 bytes, as an area keeps it (document 01, "the area keeps the schema"). Entry 0 is the database, entries 1 to 4 its tables, entry
-- 5 + 6 t + c column c of table t. Assumes nothing: these are definitions.
use Rattle.std.specs.Prelude.{ℕ, zero, suc, ◌+◌, ◌-◌, ◌*◌, Bool, true, false, List, [], ◌∷◌, ◌++◌, map, eqb, length, get_or, take, drop, replicate, Option, Some, None}
use Rattle.model.specs.Octets.{big, value, twos, part}
use Rattle.model.specs.Limits.{most_tables, most_columns, most_indexes, most_index_columns, most_text_bytes, atom_bytes, entry_bytes}
use Rattle.model.specs.Base.{is_some, flat}
use Rattle.model.specs.Schema.{Base, integer, boolean, text, uuid, Refers, plain, strong, weak, Column, Table, Schema, Database}
use Rattle.model.specs.SchemaText.{base_number}
use Rattle.model.specs.Value.{from_twos}

-- where the entries of tables and of columns stand
abbrev pub table_place : ℕ → ℕ
table_place t = 1 + t

abbrev pub column_place : ℕ → ℕ → ℕ
column_place t c = 1 + most_tables + most_columns * t + c

-- ── where the parts of an entry begin: a name's length in byte 0 and the name behind it, as in the atom of a string ──
-- a column's: base, how it refers (0 not, 1 strongly, 2 weakly), to which table, min, max, mutable, low and high in two's complement
abbrev pub base_offset : ℕ
base_offset = atom_bytes

abbrev pub refers_offset : ℕ
refers_offset = base_offset + 1

abbrev pub target_offset : ℕ
target_offset = refers_offset + 1

abbrev pub min_offset : ℕ
min_offset = target_offset + 1

abbrev pub max_offset : ℕ
max_offset = min_offset + 1

abbrev pub mutable_offset : ℕ
mutable_offset = max_offset + 1

abbrev pub low_offset : ℕ
low_offset = mutable_offset + 1

abbrev pub high_offset : ℕ
high_offset = low_offset + 8

-- a table's: how many columns, root, whether it has maxRows, maxRows, how many indexes, and for each how many columns and their numbers
abbrev pub columns_offset : ℕ
columns_offset = atom_bytes

abbrev pub root_offset : ℕ
root_offset = columns_offset + 1

abbrev pub limited_offset : ℕ
limited_offset = root_offset + 1

abbrev pub max_rows_offset : ℕ
max_rows_offset = limited_offset + 1

abbrev pub indexes_offset : ℕ
indexes_offset = max_rows_offset + 8

abbrev pub first_index_offset : ℕ
first_index_offset = indexes_offset + 1

abbrev pub second_index_offset : ℕ
second_index_offset = first_index_offset + 1 + most_index_columns

-- the database's: how many tables
abbrev pub tables_offset : ℕ
tables_offset = atom_bytes

-- ── read ──
-- the base types by their numbers
unfoldable pub base_numbered : ℕ → Base
base_numbered k = elim (eqb k 0) [ true ↦ integer | false ↦ elim (eqb k 1) [ true ↦ boolean | false ↦ elim (eqb k 2) [ true ↦ text | false ↦ uuid ] ] ]

abbrev pub entry_name : List ℕ → List ℕ
entry_name entry = part 1 (get_or entry 0 0) entry

abbrev pub is_set : List ℕ → ℕ → Bool
is_set entry at = eqb (get_or entry at 0) 1

unfoldable pub refers_from : ℕ → ℕ → Refers
refers_from how t = elim (eqb how 0) [ true ↦ plain | false ↦ elim (eqb how 1) [ true ↦ strong t | false ↦ weak t ] ]

abbrev pub column_from : List ℕ → Column
column_from entry =
    record {
      name = entry_name entry;
      base = base_numbered (get_or entry base_offset 0);
      refers = refers_from (get_or entry refers_offset 0) (get_or entry target_offset 0);
      min = get_or entry min_offset 0;
      max = get_or entry max_offset 0;
      low = from_twos (value (part low_offset 8 entry));
      high = from_twos (value (part high_offset 8 entry));
      mutable = is_set entry mutable_offset;
    }

abbrev pub index_from : List ℕ → ℕ → List ℕ
index_from entry at = part (at + 1) (get_or entry at 0) entry

abbrev pub indexes_from : List ℕ → List (List ℕ)
indexes_from entry = take (get_or entry indexes_offset 0) (index_from entry first_index_offset ∷ index_from entry second_index_offset ∷ [])

abbrev pub max_rows_from : List ℕ → Option ℕ
max_rows_from entry = elim (is_set entry limited_offset) [ true ↦ Some (value (part max_rows_offset 8 entry)) | false ↦ None ]

-- how many columns table t has, and how many tables there are
abbrev pub column_count : List (List ℕ) → ℕ → ℕ
column_count entries t = get_or (get_or entries (table_place t) []) columns_offset 0

abbrev pub table_count : List (List ℕ) → ℕ
table_count entries = get_or (get_or entries 0 []) tables_offset 0

unfoldable pub table_from : List (List ℕ) → ℕ → Table
table_from entries t =
    let entry = get_or entries (table_place t) [] in
    record {
      name = entry_name entry;
      columns = map column_from (take (column_count entries t) (drop (column_place t 0) entries));
      root = is_set entry root_offset;
      max_rows = max_rows_from entry;
      indexes = indexes_from entry;
    }

-- tables t, t + 1, .., k of them
abbrev pub tables_from : List (List ℕ) → ℕ → ℕ → Schema
tables_from entries t zero = []
tables_from entries t (suc k) = table_from entries t ∷ tables_from entries (suc t) k

abbrev pub packed_tables : List (List ℕ) → Schema
packed_tables entries = tables_from entries 0 (table_count entries)

abbrev pub database_from : List (List ℕ) → Database
database_from entries = record { name = entry_name (get_or entries 0 []); tables = packed_tables entries }

-- ── written; unused bytes are zero ──
abbrev pub name_bytes : List ℕ → List ℕ
name_bytes w = length w ∷ w ++ replicate (most_text_bytes - length w) 0

-- a test as a byte
abbrev pub bit : Bool → ℕ
bit true = 1
bit false = 0

abbrev pub how_refers : Refers → ℕ
how_refers plain = 0
how_refers (strong t) = 1
how_refers (weak t) = 2

abbrev pub target : Refers → ℕ
target plain = 0
target (strong t) = t
target (weak t) = t

abbrev pub column_entry : Column → List ℕ
column_entry c =
    name_bytes c.name
    ++ (base_number c.base ∷ how_refers c.refers ∷ target c.refers ∷ c.min ∷ c.max ∷ bit c.mutable ∷ big 8 (twos 64 c.low) ++ (big 8 (twos 64 c.high) ++ 0 ∷ []))

abbrev pub index_bytes : List ℕ → List ℕ
index_bytes l = length l ∷ l ++ replicate (most_index_columns - length l) 0

abbrev pub number_or0 : Option ℕ → ℕ
number_or0 None = 0
number_or0 (Some k) = k

abbrev pub table_entry : Table → List ℕ
table_entry t =
    name_bytes t.name
    ++ (length t.columns ∷ bit t.root ∷ bit (is_some t.max_rows) ∷ big 8 (number_or0 t.max_rows)
    ++ (length t.indexes ∷ (flat (map index_bytes t.indexes) ++ replicate ((1 + most_index_columns) * (most_indexes - length t.indexes)) 0) ++ replicate 3 0))

abbrev pub database_entry : Database → List ℕ
database_entry d = name_bytes d.name ++ length d.tables ∷ replicate 22 0

-- an entry that is not in use; entries in the room for k
abbrev pub blank_entry : List ℕ
blank_entry = replicate entry_bytes 0

abbrev pub in_room : ℕ → List (List ℕ) → List (List ℕ)
in_room k l = l ++ replicate (k - length l) blank_entry

-- the columns of k tables
abbrev pub column_entries : ℕ → Schema → List (List ℕ)
column_entries zero s = []
column_entries (suc k) [] = replicate most_columns blank_entry ++ column_entries k []
column_entries (suc k) (t ∷ s) = in_room most_columns (map column_entry t.columns) ++ column_entries k s

unfoldable pub catalog_of : Database → List (List ℕ)
catalog_of d = database_entry d ∷ in_room most_tables (map table_entry d.tables) ++ column_entries most_tables d.tables
