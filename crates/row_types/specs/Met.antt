-- Rows in cells whose values meet their types, by the cells of a schema. Assumes nothing: these are definitions.
use Rattle.std.specs.Prelude.{ℕ, suc, Bool, true, ◌&&◌, List, [], ◌∷◌, leb, ltb, take}
use Rattle.model.specs.Limits.{most_elements}
use Rattle.model.specs.Base.{all}
use Rattle.model.specs.Schema.{Column}
use Rattle.model.specs.Catalog.{column_from, table_count}
use Rattle.model.specs.Value.{Value, elements, count_in_limits, all_in_limits}
use Rattle.inner.specs.Working.{table_in, value_in}
use Rattle.catalog.specs.Entries.{columns_at}

-- "range, length in characters" of atoms, by their column's cell
unfoldable pub all_met : List ℕ → List (List ℕ) → Bool
all_met cell l = all_in_limits (column_from cell) l

-- "range, length in characters, count" of a value
unfoldable pub met_for : Column → Value → Bool
met_for c v = leb v.count most_elements && count_in_limits c v.count && all_in_limits c (elements v)

-- of the columns from c on
abbrev pub met_from : ℕ → List (List ℕ) → List (List ℕ) → Bool
met_from c [] row = true
met_from c (cell ∷ cells) row = met_for (column_from cell) (value_in c row) && met_from (suc c) cells row

-- of a row of a table of the schema
unfoldable pub row_meets : List (List ℕ) → List (List ℕ) → Bool
row_meets schema row = ltb (table_in row) (table_count schema) && met_from 0 (columns_at schema (table_in row)) row

-- of the first n rows
unfoldable pub rows_meet : List (List ℕ) → ℕ → List (List (List ℕ)) → Bool
rows_meet schema n rows = all (row_meets schema) (take n rows)
