-- Operations by what they are. Assumes nothing: these are definitions.
use Rattle.std.specs.Prelude.{ℕ, ◌≤◌, ◌<◌, ◌≡◌, Bool, true, false, List, eqb, Some, None}
use Rattle.model.specs.Octets.{eq_bytes}
use Rattle.model.specs.Base.{ascii}
use Rattle.model.specs.Limits.{most_operations, most_rows}
use Rattle.model.specs.Json.{Named}
use Rattle.inner.specs.Positions.{well_at, tree_at}
use Rattle.model.specs.Members.{members_in}
use Rattle.model.specs.Rows.{Row}
use Rattle.model.specs.Written.{Names, string_in}
use Rattle.model.specs.Catalog.{packed_tables, table_count}
use Rattle.model.specs.Operations as Model
use Rattle.catalog.specs.Accepted.{Accepted}
use Rattle.uuids.specs.Named.{Running}
use Rattle.operations.specs.declared.on_table.Call.{Call}
use Rattle.operations.specs.declared.on_table.Done.{Done}
use Rattle.operations.specs.declared.on_table.Operation.{Operation}
use Rattle.operations.specs.declared.on_table.Operation.TheVariants.{Insert, Select, Update, Mutate, Delete, Comment, Abort, Unknown}
use Rattle.operations.specs.Ran.{Room, performed, Silent}

-- ── what an operation is ──
-- by the number of its word
unfoldable pub operation_by : ℕ → Operation
operation_by k =
    elim (eqb k 0) [
      | true ↦ Insert
      | false ↦ elim (eqb k 1) [
        | true ↦ Select
        | false ↦ elim (eqb k 2) [
          | true ↦ Update
          | false ↦ elim (eqb k 3) [
            | true ↦ Mutate
            | false ↦ elim (eqb k 4) [ true ↦ Delete | false ↦ elim (eqb k 5) [ true ↦ Comment | false ↦ elim (eqb k 6) [ true ↦ Abort | false ↦ Unknown ] ] ]
          ]
        ]
      ]
    ]

-- by its word
unfoldable pub operation_named : List ℕ → Operation
operation_named w =
    elim (eq_bytes w (ascii "insert")) [
      | true ↦ Insert
      | false ↦ elim (eq_bytes w (ascii "select")) [
        | true ↦ Select
        | false ↦ elim (eq_bytes w (ascii "update")) [
          | true ↦ Update
          | false ↦ elim (eq_bytes w (ascii "mutate")) [
            | true ↦ Mutate
            | false ↦ elim (eq_bytes w (ascii "delete")) [ true ↦ Delete | false ↦ elim (eq_bytes w (ascii "comment")) [ true ↦ Comment | false ↦ elim (eq_bytes w (ascii "abort")) [ true ↦ Abort | false ↦ Unknown ] ] ]
          ]
        ]
      ]
    ]

-- by its members
unfoldable pub operation_in : List Named → Operation
operation_in ms = elim (Model.member_as string_in (ascii "op") ms) [ None ↦ Unknown | Some w ↦ operation_named w ]

abbrev pub is_on_table : Operation → Bool
is_on_table k = elim k [ Insert ↦ true | Select ↦ true | Update ↦ true | Mutate ↦ true | Delete ↦ true | Comment ↦ false | Abort ↦ false | Unknown ↦ false ]

-- ── a call ──
-- what the members of the object at `op` say, of operation i, where n rows are there before it: the model does what the call's operation does, and a table that it is on is one of the schema's
pub record Called (text : List ℕ) (schema : List (List ℕ)) (i op n : ℕ) (call : Call) : Type 0 where
  pub number : call.number ≡ i
  pub at : call.at ≡ op
  pub count : call.count ≡ n
  pub does : (names : Names) (given : List (List ℕ)) (id : ℕ) (rows : List Row)
      → Model.operate (packed_tables schema) names given id rows (members_in (tree_at text op)) ≡ performed call.operation (packed_tables schema) names given id rows (members_in (tree_at text op)) call.table
  pub here : is_on_table call.operation ≡ true → call.table < table_count schema

-- what an operation begins with
pub record Begun (text ends : List ℕ) (names : List ℕ) (schema : List (List ℕ)) (call : Call) (rows : List (List (List ℕ))) : Type 0 where
  pub running : Running text ends names
  pub accepted : Accepted schema
  pub well : well_at text call.at ≡ true
  pub early : call.number < most_operations
  pub here : is_on_table call.operation ≡ true → call.table < table_count schema
  pub count : call.count ≤ most_rows
  pub room : Room call.count 1 rows

-- what one does that is on no table: all rows stay
abbrev pub Still : Operation → List ℕ → Call → Done → Type 0
Still k text call r = (names : List ℕ) (schema : List (List ℕ)) (rows : List (List (List ℕ))) → Silent k text names schema call rows rows r
