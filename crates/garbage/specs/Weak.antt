-- What is left of weak references: of a column, a row and the working rows. Assumes nothing: these are definitions.
use Rattle.std.specs.Prelude.{ℕ, ◌≤◌, ◌<◌, ◌≡◌, List, length, take, Option, Some, None}
use Rattle.model.specs.Limits.{most_columns}
use Rattle.model.specs.Base.{keep}
use Rattle.model.specs.Schema.{Schema, columns_of}
use Rattle.model.specs.Value.{Value, elements, value_of}
use Rattle.model.specs.Rows.{Row, set_column}
use Rattle.model.specs.Commit.{present, weaken_row, weaken}
use Rattle.model.specs.Areas.{row_from}
use Rattle.inner.specs.Working.{working, table_in, value_in, TidyRow, Tidy, Ordered}

-- a value of a column that refers weakly to a table, without the elements that name no row
unfoldable pub kept_value : List Row → Option ℕ → Value → Value
kept_value rows None v = v
kept_value rows (Some t) v = value_of (keep (present rows t) (elements v))

pub record ColumnWeak (to : Option ℕ) (c n : ℕ) (rows : List (List (List ℕ))) (entry exit : List (List ℕ)) : Type 0 where
  pub row : (s : Schema) → c < length (columns_of s (table_in entry)) → row_from s exit ≡ set_column c (kept_value (working s n rows) to (value_in c entry)) (row_from s entry)
  pub tidy : (s : Schema) → c < length (columns_of s (table_in entry)) → length (columns_of s (table_in entry)) ≤ most_columns → TidyRow s entry → TidyRow s exit

pub record RowWeak (s : Schema) (n : ℕ) (rows : List (List (List ℕ))) (entry exit : List (List ℕ)) : Type 0 where
  pub row : row_from s exit ≡ weaken_row s (working s n rows) (row_from s entry)
  pub tidy : TidyRow s entry → TidyRow s exit

pub record Weakened (s : Schema) (n : ℕ) (entry exit : List (List (List ℕ))) : Type 0 where
  pub rows : working s n exit ≡ weaken s (working s n entry)
  pub tidy : Tidy s (take n entry) → Tidy s (take n exit)
  pub ordered : Ordered n exit
