-- What is judged of a value as written, by all its atoms. Assumes nothing: these are definitions.
use Rattle.std.specs.Prelude.{ℕ, ◌≤◌, ◌≡◌, Bool, true, not, List, length}
use Rattle.model.specs.Limits.{most_elements}
use Rattle.model.specs.Base.{any, distinct}
use Rattle.model.specs.Json.{Json}
use Rattle.model.specs.Schema.{Base, Column}
use Rattle.model.specs.Value.{all_in_limits, sorted, value_of}
use Rattle.model.specs.Faults.{is_fine, check}
use Rattle.model.specs.Written.{Names, elements_in, long_atom, fitting, test_fault, written}
use Rattle.model.specs.Mutations.{mutation_fault}
use Rattle.model.specs.Operations.{value_written}
use Rattle.model.specs.declared.Function.{Function}
use Rattle.model.specs.declared.Mutator.{Mutator}
use Rattle.model.specs.declared.Fault.{Fault}
use Rattle.model.specs.declared.Fault.TheVariants.{Fine, Syntax, Resources, Constraint}
use Rattle.element_atoms.specs.Atoms.{atoms_of}
use Rattle.element_sets.specs.Tallies.{all_typed}

-- the atoms of a value as written, in the text's order
unfoldable pub atoms_as : Names → Base → Json → List (List ℕ)
atoms_as names k j = atoms_of names k (elements_in j)

-- what is judged of a value: its atoms too, where they fit
pub record Inspected (names : Names) (c : Column) (j : Json) (n : ℕ) (t s w d : Bool) (atoms : List (List ℕ)) : Type 0 where
  pub count : n ≡ length (atoms_as names c.base j)
  pub typed : t ≡ all_typed names c.base (elements_in j)
  pub short : s ≡ not (any (long_atom c.base) (atoms_as names c.base j))
  pub within : w ≡ all_in_limits c (atoms_as names c.base j)
  pub different : d ≡ distinct (atoms_as names c.base j)
  pub gathered : fitting c (atoms_as names c.base j) ≡ true → atoms ≡ (value_of (atoms_as names c.base j)).atoms

-- the first check that fails, of three
unfoldable pub first_fault : Bool → Bool → Bool → Fault
first_fault typed fits allowed = check typed Syntax (check fits Resources (check allowed Constraint Fine))

-- the fault r of a mutation's value, by what is judged of that
unfoldable pub MutationFault : Column → Mutator → ℕ → Bool → Bool → Bool → Bool → Fault → Type 0
MutationFault c m n t s w d r = (names : Names) (j : Json) (atoms : List (List ℕ)) → Inspected names c j n t s w d atoms → r ≡ (written names c.base (mutation_fault c m) j).fault

-- n atoms in four places, sorted there
unfoldable pub Sorts : Base → ℕ → List (List ℕ) → List (List ℕ) → Type 0
Sorts k n entry exit = (l : List (List ℕ)) → n ≡ length l → entry ≡ (value_of l).atoms → exit ≡ (value_of (sorted k l)).atoms

-- a value of a row, read: its fault r; where it has none, that it fits, and the value itself; else the atoms are free. What fits has at most four atoms
pub record RowGiven (names : Names) (c : Column) (j : Json) (r : Fault) (n : ℕ) (fits : Bool) (atoms : List (List ℕ)) : Type 0 where
  pub fault : r ≡ (value_written names c j).fault
  pub few : fits ≡ true → n ≤ most_elements
  pub fit : is_fine (value_written names c j).fault ≡ true → fits ≡ true
  pub got : is_fine (value_written names c j).fault ≡ true → (value_written names c j).got ≡ record { count = n; atoms = atoms }

-- a value of a condition or of a mutation, read: its fault r; where it has none, how many elements, whether their atoms fit, and these where they do; else the atoms are free
pub record ValueGiven (names : Names) (c : Column) (judge : List (List ℕ) → Fault) (j : Json) (r : Fault) (n : ℕ) (fits : Bool) (atoms : List (List ℕ)) : Type 0 where
  pub fault : r ≡ (written names c.base judge j).fault
  pub count : is_fine (written names c.base judge j).fault ≡ true → n ≡ length (written names c.base judge j).got
  pub fit : is_fine (written names c.base judge j).fault ≡ true → fits ≡ fitting c (written names c.base judge j).got
  pub gathered : is_fine (written names c.base judge j).fault ≡ true → fits ≡ true → atoms ≡ (value_of (written names c.base judge j).got).atoms

abbrev pub TestGiven : Names → Column → Function → Json → Fault → ℕ → Bool → List (List ℕ) → Type 0
TestGiven names c f j r n fits atoms = ValueGiven names c (test_fault c f) j r n fits atoms
