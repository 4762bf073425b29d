-- Mutations by places of the text. Assumes nothing: these are definitions.
use Rattle.std.specs.Prelude.{ℕ, ◌≤◌, ◌<◌, ◌≡◌, true, false, List, [], map, eqb, length, get_or, take, if◌then◌else◌, Option, Some, None}
use Rattle.model.specs.Limits.{most_elements}
use Rattle.model.specs.Json.{Json}
use Rattle.inner.specs.Positions.{well_at, tree_at, items_from}
use Rattle.model.specs.Schema.{Base, Column}
use Rattle.model.specs.Value.{int_of}
use Rattle.model.specs.Conditions.{first_int}
use Rattle.model.specs.Faults.{is_fine, earlier, check, Judged}
use Rattle.model.specs.Written.{Names, string_in}
use Rattle.model.specs.Mutations.{Mutation, mutator_named, suits, no_mutation, mutation_by, read_mutation, read_mutations}
use Rattle.model.specs.Catalog.{column_from}
use Rattle.model.specs.declared.Fault.{Fault}
use Rattle.model.specs.declared.Fault.TheVariants.{Fine, Syntax, Constraint}
use Rattle.model.specs.declared.Mutator.{Mutator}
use Rattle.model.specs.declared.Mutator.TheVariants.{Add, Subtract, Multiply, Divide, Remainder, Insert, Delete}
use Rattle.uuids.specs.Named.{names_at}
use Rattle.request_values.specs.Values.{atoms_as}
use Rattle.mutations.specs.declared.read.Mutation.{Mutation as Read}

-- ── mutators ──
-- by their numbers, in the order of RFC 7047
unfoldable pub mutator_by : ℕ → Option Mutator
mutator_by k =
    if eqb k 0 then Some Add
    else if eqb k 1 then Some Subtract
    else if eqb k 2 then Some Multiply
    else if eqb k 3 then Some Divide
    else if eqb k 4 then Some Remainder
    else if eqb k 5 then Some Insert
    else if eqb k 6 then Some Delete
    else None

-- the mutator that a value names
unfoldable pub mutator_in : Json → Option Mutator
mutator_in j = elim (string_in j) [ None ↦ None | Some w ↦ mutator_named w ]

-- ── mutations ──
-- how one on a column is judged, where its value is judged as v
unfoldable pub column_fault : Column → Mutator → Fault → Fault
column_fault c m v = elim (suits c m) [ true ↦ earlier v (check c.mutable Constraint Fine) | false ↦ Syntax ]

-- a fault, or another where it is none
unfoldable pub fault_or : Fault → Fault → Fault
fault_or f g = elim (is_fine f) [ true ↦ g | false ↦ f ]

-- one by its parts: the place of its column, its mutator, and where its value stands
pub record Parted (text : List ℕ) (cells : List (List ℕ)) (at i : ℕ) (m : Mutator) (v : ℕ) : Type 0 where
  pub place : i < length cells
  pub well : well_at text v ≡ true
  pub all : (names : Names) → read_mutation names (map column_from cells) (tree_at text at) ≡ mutation_by names (tree_at text v) i m (column_from (get_or cells i []))

unfoldable pub PartsOf : List ℕ → List (List ℕ) → ℕ → Option (ℕ × Mutator × ℕ) → Type 0
PartsOf text cells at (Some (i, m, v)) = Parted text cells at i m v
PartsOf text cells at None = (names : Names) → read_mutation names (map column_from cells) (tree_at text at) ≡ no_mutation

-- the one at a position
unfoldable pub mutation_at : List ℕ → List ℕ → List (List ℕ) → ℕ → Judged Mutation
mutation_at text names columns at = read_mutation (names_at text names) (map column_from columns) (tree_at text at)

-- those from a place on
unfoldable pub mutations_at : List ℕ → List ℕ → List (List ℕ) → Option ℕ → Judged (List Mutation)
mutations_at text names columns f = read_mutations (names_at text names) (map column_from columns) (items_from text f)

-- ── mutations as read ──
-- the elements of one: those that are held as atoms, or else those that stand in the text
unfoldable pub elements_read : List ℕ → List ℕ → Base → Read → List (List ℕ) → List (List ℕ)
elements_read text names k m atoms = elim m.fits [ true ↦ take m.count atoms | false ↦ atoms_as (names_at text names) k (tree_at text m.at) ]

-- the mutation that it stands for
unfoldable pub mutation_from : List ℕ → List ℕ → List (List ℕ) → Read → List (List ℕ) → Mutation
mutation_from text names columns m atoms =
    let c = column_from (get_or columns m.place []) in
    record { place = m.place; column = c; mutator = m.mutator; atoms = elements_read text names c.base m atoms }

-- one that can be put on rows: what does not fit four atoms is to be deleted, and stands in the text
pub record Ready (text : List ℕ) (m : Read) (atoms : List (List ℕ)) : Type 0 where
  pub few : m.fits ≡ true → m.count ≤ most_elements
  pub first : m.fits ≡ true → first_int (take m.count atoms) ≡ int_of (get_or atoms 0 [])
  pub deletes : m.fits ≡ false → m.mutator ≡ Delete
  pub well : m.fits ≡ false → well_at text m.at ≡ true

-- one read, where j is what the model reads: its fault, and where that is none the mutation
pub record MutationRead (text names : List ℕ) (columns : List (List ℕ)) (j : Judged Mutation) (m : Read) (atoms : List (List ℕ)) : Type 0 where
  pub fault : m.fault ≡ j.fault
  pub got : is_fine j.fault ≡ true → mutation_from text names columns m atoms ≡ j.got
  pub place : is_fine j.fault ≡ true → m.place < length columns
  pub ready : is_fine j.fault ≡ true → Ready text m atoms
