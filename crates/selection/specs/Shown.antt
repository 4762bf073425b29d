-- The columns that a select names. Assumes nothing: these are definitions.
use Rattle.std.specs.Prelude.{ℕ, ◌+◌, ◌<◌, ◌≡◌, Bool, true, false, not, ◌&&◌, ◌||◌, List, [], eqb, length, get_or, Some, None}
use Rattle.model.specs.Octets.{eq_bytes}
use Rattle.model.specs.Base.{any, is_some, ascii}
use Rattle.model.specs.Json.{Json}
use Rattle.inner.specs.Positions.{well_at}
use Rattle.model.specs.Text.{is_word}
use Rattle.model.specs.Schema.{Column, column_named}
use Rattle.model.specs.Written.{string_in}
use Rattle.model.specs.Faults.{is_fine}
use Rattle.model.specs.Catalog.{entry_name}
use Rattle.model.specs.declared.Fault.{Fault}
use Rattle.selection.specs.declared.Columns.{Columns}

-- a slot stands for nothing, or for a value that can be read
unfoldable pub slot_well : List ℕ → ℕ → Bool
slot_well s p = elim (eqb p 0) [ true ↦ true | false ↦ well_at s p ]

-- whether a name is among values
unfoldable pub among : List Json → List ℕ → Bool
among js w = any (is_word w) js

-- a value names "_uuid" or a column, and is not shown yet: "each a column of the table or "_uuid", none twice"
unfoldable pub fair_name : List Column → (List ℕ → Bool) → Json → Bool
fair_name cs show j = elim (string_in j) [ None ↦ false | Some w ↦ (eq_bytes w (ascii "_uuid") || is_some (column_named cs w)) && not (show w) ]

-- what is shown with one name more
unfoldable pub with_name : (List ℕ → Bool) → Json → List ℕ → Bool
with_name show j w = is_word w j || show w

-- flags of what is shown: 0 for "_uuid", 1 + c for column c
pub record Flagged (show : List ℕ → Bool) (cells : List (List ℕ)) (flags : List Bool) : Type 0 where
  pub id : get_or flags 0 false ≡ show (ascii "_uuid")
  pub column : (j : ℕ) → j < length cells → get_or flags (j + 1) false ≡ show (entry_name (get_or cells j []))

-- what a select's columns come to: how they are judged, and where there is no fault flags of what they show
pub record ColumnsRead (f : Fault) (show : List ℕ → Bool) (cells : List (List ℕ)) (r : Columns) : Type 0 where
  pub fault : r.fault ≡ f
  pub flags : is_fine r.fault ≡ true → Flagged show cells r.flags
