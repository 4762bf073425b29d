-- The limits of document 01's first table, and the shapes that follow from them, each named once; the source has the same names (crates/model/src). Assumes nothing: these are definitions.
use Rattle.std.specs.Prelude.{ℕ, ◌+◌, ◌*◌}

-- "schema text, request text"
abbrev pub most_schema_bytes : ℕ
most_schema_bytes = 4096

abbrev pub most_request_bytes : ℕ
most_request_bytes = 8192

abbrev pub most_operations : ℕ
most_operations = 16

abbrev pub most_tables : ℕ
most_tables = 4

abbrev pub most_columns : ℕ
most_columns = 6

abbrev pub most_rows : ℕ
most_rows = 32

-- elements in a set; "unlimited" means this
abbrev pub most_elements : ℕ
most_elements = 4

abbrev pub most_indexes : ℕ
most_indexes = 2

abbrev pub most_index_columns : ℕ
most_index_columns = 3

-- bytes of a string value or an id
abbrev pub most_text_bytes : ℕ
most_text_bytes = 24

-- the last record number
abbrev pub last_number : ℕ
last_number = 4294967295

-- ── shapes ──
-- an atom's bytes: "a length byte and the string"
abbrev pub atom_bytes : ℕ
atom_bytes = 1 + most_text_bytes

-- a row's id, and a run or a record number
abbrev pub id_bytes : ℕ
id_bytes = 16

abbrev pub number_bytes : ℕ
number_bytes = 4

-- a row in cells of an atom's bytes: one for its table, id and counts, and the atoms of each column; where the id and the counts begin in the first
abbrev pub row_cell_count : ℕ
row_cell_count = 1 + most_elements * most_columns

abbrev pub row_bytes : ℕ
row_bytes = atom_bytes * row_cell_count

abbrev pub id_offset : ℕ
id_offset = 1

abbrev pub counts_offset : ℕ
counts_offset = id_offset + id_bytes

-- a catalog in entries: one for the database, one for each table, one for each column of each table
abbrev pub entry_bytes : ℕ
entry_bytes = 48

abbrev pub entry_count : ℕ
entry_count = 1 + most_tables + most_tables * most_columns

abbrev pub catalog_bytes : ℕ
catalog_bytes = entry_bytes * entry_count

-- ── an area: where its parts begin, and its length ──
abbrev pub run_offset : ℕ
run_offset = 0

abbrev pub number_offset : ℕ
number_offset = run_offset + number_bytes

abbrev pub catalog_offset : ℕ
catalog_offset = number_offset + number_bytes

abbrev pub count_offset : ℕ
count_offset = catalog_offset + catalog_bytes

abbrev pub rows_offset : ℕ
rows_offset = count_offset + 1

abbrev pub store_bytes : ℕ
store_bytes = rows_offset + row_bytes * most_rows

-- a mirror's has the highest number heard and two flags behind that
abbrev pub top_offset : ℕ
top_offset = store_bytes

abbrev pub heard_offset : ℕ
heard_offset = top_offset + number_bytes

abbrev pub whole_offset : ℕ
whole_offset = heard_offset + 1

abbrev pub mirror_bytes : ℕ
mirror_bytes = whole_offset + 1

-- ── records: kind, run and number; a row's has its table and id too; a column's its number, its count and its atoms ──
abbrev pub end_bytes : ℕ
end_bytes = 1 + number_bytes + number_bytes

abbrev pub row_record_bytes : ℕ
row_record_bytes = end_bytes + 1 + id_bytes

-- a column's count and atoms
abbrev pub value_width : ℕ
value_width = 1 + atom_bytes * most_elements

abbrev pub column_record_bytes : ℕ
column_record_bytes = row_record_bytes + 1 + value_width

-- ── buffers: "fresh ids not 256 bytes, records under 26,249 bytes, answer under 64, mark under 9" (refusal 2) ──
abbrev pub fresh_bytes : ℕ
fresh_bytes = id_bytes * most_operations

-- the longest commit: all rows gone, as many born with all their columns, and an end
abbrev pub least_records : ℕ
least_records = most_rows * row_record_bytes + most_rows * (row_record_bytes + most_columns * column_record_bytes) + end_bytes

abbrev pub least_answer : ℕ
least_answer = 64

abbrev pub least_mark : ℕ
least_mark = end_bytes
