-- The working rows of a call: rows in cells, beside their count, and the rows that they stand for. No statement needs these: inner promises do. Assumes nothing: these are definitions.
use Rattle.std.specs.Prelude.{◌≡◌, true, false, List, [], ◌∷◌, ◌++◌, map, ℕ, suc, ◌+◌, ◌-◌, ◌*◌, ◌≤◌, ◌<◌, eqb, ltb, length, get_or, take, drop, set, replicate, Option, Some, None}
use Rattle.model.specs.Octets.{value, part}
use Rattle.model.specs.Limits.{most_columns, most_elements, id_bytes, id_offset, counts_offset}
use Rattle.model.specs.Schema.{Column, Schema}
use Rattle.model.specs.Value.{Value, initial}
use Rattle.model.specs.Rows.{Row, key_of, key}
use Rattle.model.specs.Areas.{row_cells, row_from}

-- the rows that the first n of these cells stand for
unfoldable pub working : Schema → ℕ → List (List (List ℕ)) → List Row
working s n cells = map (row_from s) (take n cells)

-- ── a row's parts, where they lie in its cells ──
unfoldable pub table_in : List (List ℕ) → ℕ
table_in cells = get_or (get_or cells 0 []) 0 0

unfoldable pub id_in : List (List ℕ) → ℕ
id_in cells = value (part id_offset id_bytes (get_or cells 0 []))

unfoldable pub key_in : List (List ℕ) → ℕ
key_in cells = key_of (table_in cells) (id_in cells)

-- column c's count and atoms
unfoldable pub value_in : ℕ → List (List ℕ) → Value
value_in c cells = record { count = get_or (get_or cells 0 []) (counts_offset + c) 0; atoms = take most_elements (drop (1 + most_elements * c) cells) }

-- the cells with column c's count and atoms set
unfoldable pub with_value : ℕ → Value → List (List ℕ) → List (List ℕ)
with_value c v cells =
    set (get_or cells 0 []) (counts_offset + c) v.count ∷ take (most_elements * c) (drop 1 cells) ++ (v.atoms ++ drop (most_elements * c + most_elements) (drop 1 cells))

-- the columns' minimums, and zeros for the columns that a table lacks
unfoldable pub minimums : List Column → List ℕ
minimums cs = map (λ (c : Column). c.min) cs ++ replicate (most_columns - length cs) 0

-- "insert defaults": the count of a new column by its minimum, and a new row
abbrev pub born_count : ℕ → ℕ
born_count m = elim (eqb m 0) [ true ↦ 0 | false ↦ 1 ]

abbrev pub new_row : ℕ → ℕ → List Column → Row
new_row t i cs = record { table = t; id = i; columns = map initial cs }

-- ── "unused bytes zero": the cells are just those of the row that they stand for ──
unfoldable pub TidyRow : Schema → List (List ℕ) → Type 0
TidyRow s r = row_cells (row_from s r) ≡ r

abbrev pub Tidy : Schema → List (List (List ℕ)) → Type 0
Tidy s [] = Unit
Tidy s (r ∷ rs) = TidyRow s r × Tidy s rs

-- ── "table order, ids ascending" (good order), of working rows too ──
-- every number is above k; each number is below all that come after it
abbrev pub Above : ℕ → List ℕ → Type 0
Above k [] = Unit
Above k (x ∷ l) = (k < x) × Above k l

abbrev pub Ascending : List ℕ → Type 0
Ascending [] = Unit
Ascending (x ∷ l) = Above x l × Ascending l

-- the first n rows are there, and their keys ascend: what a search may rest on
pub record Ordered (n : ℕ) (cells : List (List (List ℕ))) : Type 0 where
  pub there : n ≤ length cells
  pub ascending : Ascending (map key_in (take n cells))

-- ── places ──
-- the place of the row under a key, counted on from i
abbrev pub place_from : ℕ → ℕ → List Row → Option ℕ
place_from i k [] = None
place_from i k (r ∷ rs) = elim (eqb k (key r)) [ true ↦ Some i | false ↦ place_from (suc i) k rs ]

unfoldable pub place : ℕ → List Row → Option ℕ
place k rows = place_from 0 k rows

-- the place of a new row: past the rows that lie before one of a greater key
abbrev pub slot : ℕ → List Row → ℕ
slot k [] = 0
slot k (r ∷ rs) = elim (ltb k (key r)) [ true ↦ 0 | false ↦ suc (slot k rs) ]

-- an element put in at a place, and taken out
abbrev pub inserted : {A : Type 0} → ℕ → A → List A → List A
inserted i a l = take i l ++ a ∷ drop i l

abbrev pub removed : {A : Type 0} → ℕ → List A → List A
removed i l = take i l ++ drop (suc i) l
