-- Members of an operation by slots. Assumes nothing: these are definitions.
use Rattle.std.specs.Prelude.{ℕ, ◌≡◌, Bool, true, false, not, List, [], map, eqb, ltb, Option, Some, None}
use Rattle.model.specs.declared.Fault.{Fault}
use Rattle.model.specs.declared.Fault.TheVariants.{Fine, Syntax, Duplicate}
use Rattle.model.specs.Base.{member}
use Rattle.model.specs.Json.{Json, Named}
use Rattle.inner.specs.Positions.{well_at}
use Rattle.model.specs.Value.{Value}
use Rattle.model.specs.Faults.{check, Judged}
use Rattle.model.specs.Written.{array_in, object_in}
use Rattle.model.specs.Conditions.{Test, read_tests}
use Rattle.model.specs.Mutations.{Mutation, read_mutations}
use Rattle.model.specs.Operations.{row_of}
use Rattle.model.specs.Catalog.{column_from}
use Rattle.uuids.specs.Named.{names_at, place_in}
use Rattle.request_rows.specs.Assigned.{slotted, absent_by, named_by}

-- a slot stands for nothing, or for a value that can be read
unfoldable pub SlotFine : List ℕ → ℕ → Type 0
SlotFine s p = eqb p 0 ≡ false → well_at s p ≡ true

-- the array, or the members of the object, that a slot stands for
abbrev pub array_slot : List ℕ → ℕ → Option (List Json)
array_slot s p = elim (slotted s p) [ None ↦ None | Some j ↦ array_in j ]

abbrev pub object_slot : List ℕ → ℕ → Option (List Named)
object_slot s p = elim (slotted s p) [ None ↦ None | Some j ↦ object_in j ]

-- "where", "mutations" and "row" of a slot: a syntax error where it is missing or mistyped
unfoldable pub where_at : List ℕ → List ℕ → List (List ℕ) → ℕ → Judged (List Test)
where_at s names columns p =
    elim (array_slot s p) [ None ↦ record { fault = Syntax; got = [] } | Some l ↦ read_tests (names_at s names) (map column_from columns) l ]

unfoldable pub mutations_in : List ℕ → List ℕ → List (List ℕ) → ℕ → Judged (List Mutation)
mutations_in s names columns p =
    elim (array_slot s p) [ None ↦ record { fault = Syntax; got = [] } | Some l ↦ read_mutations (names_at s names) (map column_from columns) l ]

unfoldable pub row_at : Bool → List ℕ → List ℕ → List (List ℕ) → ℕ → Judged (List (Option Value))
row_at insert s names columns p =
    elim (object_slot s p) [
      | None ↦ record { fault = Syntax; got = [] }
      | Some ms ↦ row_of (names_at s names) (absent_by insert) (named_by insert) (map column_from columns) ms
    ]

-- ── uuid-names ──
-- a place that lies before another
unfoldable pub found_before : ℕ → Option ℕ → Bool
found_before i (Some k) = ltb k i
found_before i None = false

-- the names that the operations before number i give
unfoldable pub Earlier : List ℕ → List ℕ → ℕ → List (List ℕ) → Type 0
Earlier s names i given = (w : List ℕ) → member w given ≡ found_before i (place_in s names w)

-- a name that was given is a duplicate
unfoldable pub taken_fault : List ℕ → List ℕ → ℕ → List ℕ → Fault
taken_fault s names i w = check (not (found_before i (place_in s names w))) Duplicate Fine
