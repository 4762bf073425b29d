-- The indexes of a table's entry, each in its slot. Assumes nothing: these are definitions.
use Rattle.std.specs.Prelude.{ℕ, ◌+◌, Bool, true, false, List, replicate}
use Rattle.model.specs.Limits.{most_index_columns}
use Rattle.model.specs.Catalog.{index_from, index_bytes}

-- a byte where a test passes, else zero
unfoldable pub kept_where : Bool → ℕ → ℕ
kept_where true b = b
kept_where false b = 0

-- a slot that is in use, and one that is not
unfoldable pub slot_bytes : Bool → List ℕ → ℕ → List ℕ
slot_bytes true e at = index_bytes (index_from e at)
slot_bytes false e at = replicate (1 + most_index_columns) 0
