-- A table of ends, filled as a text is read. Assumes nothing: these are definitions.
use Rattle.std.specs.Prelude.{Ok, Err}
use Rattle.model.specs.Scan.{Read}
use Rattle.std.specs.Prelude.{ℕ, List, true, false, set, ltb}

-- the table with the end of what was read at a position, where an entry can hold it; `set` past the end changes nothing
unfoldable pub noted : List ℕ → ℕ → Read → List ℕ
noted ends at (Ok e) = elim (ltb e 65536) [ true ↦ set ends at e | false ↦ ends ]
noted ends at (Err e) = ends
