-- An area's rows as cells, and the tests of what an area leaves unused. Assumes nothing: these are definitions.
use Rattle.std.specs.Prelude.{ℕ, zero, suc, ◌+◌, ◌-◌, ◌*◌, ◌≤◌, ◌≡◌, Bool, true, cond, ◌&&◌, List, [], ◌∷◌, ◌++◌, leb, length, get_or, take, drop}
use Rattle.model.specs.Octets.{part}
use Rattle.model.specs.Base.{all, flat}
use Rattle.model.specs.Limits.{most_rows, most_elements, counts_offset, row_cell_count, row_bytes, count_offset, rows_offset}
use Rattle.model.specs.Schema.{columns_of}
use Rattle.model.specs.Catalog.{column_from, packed_tables}
use Rattle.model.specs.Value.{zeros, canonical_for}
use Rattle.model.specs.Records.{cut}
use Rattle.model.specs.Areas.{row_from, row_passes, ascends, distinct_ids}
use Rattle.inner.specs.Working.{working, table_in, value_in, Ordered}

-- n rows, one after another
abbrev pub rows_in : ℕ → List ℕ → List (List (List ℕ))
rows_in zero b = []
rows_in (suc n) b = cut row_cell_count b ∷ rows_in n (drop row_bytes b)

-- row i of an area, and its first n rows
unfoldable pub row_at : List ℕ → ℕ → List (List ℕ)
row_at a i = cut row_cell_count (drop (rows_offset + row_bytes * i) a)

abbrev pub rows_at : ℕ → List ℕ → List (List (List ℕ))
rows_at n a = rows_in n (drop rows_offset a)

-- the bytes of rows in cells
abbrev pub bytes_of : List (List (List ℕ)) → List ℕ
bytes_of [] = []
bytes_of (r ∷ rs) = flat r ++ bytes_of rs

-- "unused bytes zero" of a row with k columns: its other counts and cells
unfoldable pub tidy_from : ℕ → List (List ℕ) → Bool
tidy_from k cells = zeros (drop (counts_offset + k) (get_or cells 0 [])) && all zeros (drop (1 + most_elements * k) cells)

-- n rows written to the front of a buffer
pub record Rows (n : ℕ) (rows : List (List (List ℕ))) (entry exit : List ℕ) : Type 0 where
  pub bytes : exit ≡ bytes_of (take n rows) ++ drop (row_bytes * n) entry
  pub size : length (bytes_of (take n rows)) ≡ row_bytes * n

-- the columns from c on are in canonical form, by their cells of a schema
abbrev pub canonical_from : ℕ → List (List ℕ) → List (List ℕ) → Bool
canonical_from c [] row = true
canonical_from c (cell ∷ cells) row = canonical_for (column_from cell) (value_in c row) && canonical_from (suc c) cells row

-- a row passes the tests of good order, and its unused bytes are zero
unfoldable pub row_good : List (List ℕ) → List (List ℕ) → Bool
row_good schema row =
    row_passes canonical_for (packed_tables schema) (row_from (packed_tables schema) row) && tidy_from (length (columns_of (packed_tables schema) (table_in row))) row

-- the first n rows pass: each by itself, in order, and with ids all different
unfoldable pub rows_good : List (List ℕ) → ℕ → List (List (List ℕ)) → Bool
rows_good schema n rows =
    all (row_good schema) (take n rows) && (ascends (working (packed_tables schema) n rows) && distinct_ids (working (packed_tables schema) n rows))

-- ── the part of an area that stores and mirrors share ──
abbrev pub row_count : List ℕ → ℕ
row_count a = get_or a count_offset 0

-- "unused bytes zero" behind the rows
unfoldable pub rest_zero : List ℕ → Bool
rest_zero a = zeros (part (rows_offset + row_bytes * row_count a) (row_bytes * (most_rows - row_count a)) a)

-- its rows are in good order, by its catalog
unfoldable pub part_good : List (List ℕ) → List ℕ → Bool
part_good schema a = leb (row_count a) most_rows && (rest_zero a && rows_good schema (row_count a) (rows_at (row_count a) a))

-- its rows in front of what was there; nothing is read where there are too many of them, or bytes behind them that are not zero
unfoldable pub rows_read : List ℕ → List (List (List ℕ)) → List (List (List ℕ))
rows_read a before = cond (leb (row_count a) most_rows && rest_zero a) (rows_at (row_count a) a ++ drop (row_count a) before) before

-- working rows are enough for its rows, where those are not too many
abbrev pub RowsFit : List ℕ → List (List (List ℕ)) → Type 0
RowsFit a rows = row_count a ≤ most_rows → row_count a ≤ length rows

-- whether its rows are in good order, and the working rows after it
pub record PartRead (a : List ℕ) (schema : List (List ℕ)) (before after : List (List (List ℕ))) (r : Bool) : Type 0 where
  pub good : r ≡ part_good schema a
  pub rows : after ≡ rows_read a before
  pub ordered : r ≡ true → Ordered (row_count a) after
