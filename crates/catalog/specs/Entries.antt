-- The entries of a catalog, by table and by name. Assumes nothing: these are definitions.
use Rattle.std.specs.Prelude.{ℕ, ◌+◌, ◌*◌, Bool, true, false, List, map, take, drop, Option, Some, None}
use Rattle.model.specs.Base.{place_of}
use Rattle.model.specs.Limits.{most_tables, most_columns}
use Rattle.model.specs.Catalog.{column_count, entry_name}

-- the entries of a table's columns
abbrev pub columns_at : List (List ℕ) → ℕ → List (List ℕ)
columns_at catalog t = take (column_count catalog t) (drop (1 + most_tables + most_columns * t) catalog)

unfoldable pub is_found : Option ℕ → Bool
is_found (Some k) = true
is_found None = false

-- the place of a name among the names of entries
unfoldable pub entry_named : List (List ℕ) → List ℕ → Option ℕ
entry_named entries w = place_of w (map entry_name entries)
