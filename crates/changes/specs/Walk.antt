-- The records of a commit as they are written one after another into a buffer (document 01, "Records on the line"). Assumes nothing: these are definitions.
use Rattle.std.specs.Prelude.{ℕ, suc, ◌+◌, ◌*◌, ◌≤◌, ◌<◌, ◌≡◌, Bool, true, false, List, [], ◌∷◌, ltb, length, Option, Some, None}
use Rattle.model.specs.Limits.{most_columns, most_rows, store_bytes, row_record_bytes, column_record_bytes, least_records}
use Rattle.model.specs.Schema.{Schema}
use Rattle.model.specs.Value.{Value, same_value}
use Rattle.model.specs.Rows.{Row, key, find}
use Rattle.model.specs.Records.{Change, never, row_writes, writes, numbered, encode}
use Rattle.model.specs.Areas.{row_from}
use Rattle.model.specs.Catalog.{packed_tables}
use Rattle.inner.specs.Positions.{is_nothing}
use Rattle.inner.specs.Working.{working, table_in, id_in}
use Rattle.area.specs.Layout.{row_at, rows_at}
use Rattle.json_writer.specs.Put.{put_at}
use Rattle.changes.specs.declared.Cursor.{Cursor}

-- a buffer of records: how many are in it, where the next one begins, its bytes
pub record Written : Type 0 where
  pub count : ℕ
  pub at : ℕ
  pub bytes : List ℕ

abbrev pub written : Cursor → List ℕ → Written
written c b = record { count = c.count; at = c.at; bytes = b }

-- one record more: "Numbers run on", where so many were given out before the commit
unfoldable pub put : ℕ → ℕ → Change → Written → Written
put run number e w =
    let b = encode (numbered run (suc (number + w.count)) e) in
    record { count = suc w.count; at = w.at + length b; bytes = put_at w.bytes w.at b }

abbrev pub puts : ℕ → ℕ → List Change → Written → Written
puts run number [] w = w
puts run number (e ∷ es) w = puts run number es (put run number e w)

-- there is room for so many bytes more in a buffer of this size, and no more records than bytes so far
pub record Room (most : ℕ) (c : Cursor) (size : ℕ) : Type 0 where
  pub few : c.count ≤ c.at
  pub room : c.at + most ≤ least_records
  pub enough : least_records ≤ size

-- changes were written, with at most so many bytes
pub record Recorded (run number : ℕ) (es : List Change) (most : ℕ) (c : Cursor) (before : List ℕ) (r : Cursor) (after : List ℕ) : Type 0 where
  pub all : written r after ≡ puts run number es (written c before)
  pub short : r.at ≤ c.at + most
  pub few : r.count ≤ r.at

-- which columns are left out: none of a new row ("born and all its columns"), of another those that are like before ("its changed columns")
unfoldable pub skips : Bool → Value → Value → Bool
skips true = never
skips false = same_value

-- ── the rows before the commit, which the store's area has ──
-- a place among them, or none
unfoldable pub Old : List ℕ → Option ℕ → Type 0
Old a (Some i) = (store_bytes ≤ length a) × (i < most_rows)
Old a None = Unit

-- the row there; where there is none, a new row, of which no column is left out whatever stands here: itself
unfoldable pub old_cells : List ℕ → Option ℕ → List (List ℕ) → List (List ℕ)
old_cells a (Some i) row = row_at a i
old_cells a None row = row

-- how many rows at the front lie before a key
abbrev pub fore : ℕ → List Row → ℕ
fore k [] = 0
fore k (r ∷ rs) = elim (ltb (key r) k) [ true ↦ suc (fore k rs) | false ↦ 0 ]

-- the first m rows that an area has, and the first n working rows, by the schema's entries
abbrev pub area_rows : List (List ℕ) → ℕ → List ℕ → List Row
area_rows schema m area = working (packed_tables schema) m (rows_at m area)

abbrev pub working_rows : List (List ℕ) → ℕ → List (List (List ℕ)) → List Row
working_rows schema n rows = working (packed_tables schema) n rows

-- the columns that a row writes beside what was at its place before
abbrev pub columns_written : List (List ℕ) → List ℕ → Option ℕ → List (List ℕ) → List Change
columns_written schema area old row =
    writes (skips (is_nothing old)) (table_in row) (id_in row) 0 (row_from (packed_tables schema) (old_cells area old row)).columns (row_from (packed_tables schema) row).columns

-- ── what a row after the commit writes: "each new row .., each changed row .." ──
unfoldable pub row_written : Schema → List Row → Row → List Change
row_written s before r = row_writes s (find (key r) before) r

-- and at most so many bytes: a born record and six columns
abbrev pub row_most : ℕ
row_most = row_record_bytes + most_columns * column_record_bytes
