-- How columns refer, by the numbers that the code has for it. Assumes nothing: these are definitions.
use Rattle.std.specs.Prelude.{ℕ, Bool, true, false, List, [], eqb, get_or, Option, Some, None}
use Rattle.model.specs.Base.{all}
use Rattle.model.specs.Schema.{Refers, Schema, columns_of}
use Rattle.model.specs.Rows.{Row, has}
use Rattle.model.specs.Commit.{strongly, weakly, targets}
use Rattle.model.specs.Catalog.{column_place, column_from}

-- strong references (1) or weak ones
unfoldable pub pick : ℕ → Refers → Option ℕ
pick how r = elim (eqb how 1) [ true ↦ strongly r | false ↦ weakly r ]

-- how column c of table t refers, in the cells of a schema
unfoldable pub refers_at : List (List ℕ) → ℕ → ℕ → Refers
refers_at cells t c = (column_from (get_or cells (column_place t c) [])).refers

-- the rows that a row refers to, strongly (1) or weakly, are all there
unfoldable pub referred : Schema → ℕ → List Row → Row → Bool
unfolding pick
referred s how rows r = all (λ (k : ℕ). has k rows) (targets (pick how) (columns_of s r.table) r.columns)
