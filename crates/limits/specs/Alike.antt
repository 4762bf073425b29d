-- Rows of a table and indexes, over rows in cells. Assumes nothing: these are definitions.
use Rattle.std.specs.Prelude.{ℕ, ◌<◌, Bool, true, not, ◌&&◌, List, [], ◌∷◌, eqb, length, get_or}
use Rattle.model.specs.Limits.{most_columns}
use Rattle.model.specs.Base.{any, all}
use Rattle.model.specs.Schema.{Schema, columns_of}
use Rattle.model.specs.Value.{same_value}
use Rattle.model.specs.Rows.{Row}
use Rattle.model.specs.Commit.{enough}
use Rattle.inner.specs.Working.{table_in, value_in}

-- a row is one of table t
unfoldable pub of_t : ℕ → List (List ℕ) → Bool
of_t t row = eqb t (table_in row)

-- two rows are equal in the columns of an index
unfoldable pub same_cells : List ℕ → List (List ℕ) → List (List ℕ) → Bool
same_cells index x y = all (λ (c : ℕ). same_value (value_in c x) (value_in c y)) index

abbrev pub unique_cells : List ℕ → List (List (List ℕ)) → Bool
unique_cells index [] = true
unique_cells index (x ∷ xs) = not (any (same_cells index x) xs) && unique_cells index xs

-- every column of a row has its minimum
unfoldable pub row_enough : Schema → Row → Bool
row_enough s r = enough (columns_of s r.table) r.columns

-- an index of columns that rows have
pub record IndexFits (index : List ℕ) : Type 0 where
  pub columns : (k : ℕ) → k < length index → get_or index k 0 < most_columns
