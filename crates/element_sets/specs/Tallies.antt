-- All elements of a value as written, judged together. Assumes nothing: these are definitions.
use Rattle.std.specs.Prelude.{ℕ, ◌≤◌, ◌≡◌, Bool, true, false, not, List, ltb, length, set}
use Rattle.model.specs.Limits.{most_elements}
use Rattle.model.specs.Base.{any, all, is_some}
use Rattle.model.specs.Json.{Json}
use Rattle.model.specs.Schema.{Base, Column}
use Rattle.model.specs.Value.{atom_in_limits, all_in_limits, value_of}
use Rattle.model.specs.Written.{Names, atom_in, long_atom}
use Rattle.element_atoms.specs.Atoms.{atom_as, atoms_of}

-- whether an element is of a base type, and whether all are
unfoldable pub is_typed : Names → Base → Json → Bool
is_typed names k j = is_some (atom_in names k j)

unfoldable pub all_typed : Names → Base → List Json → Bool
all_typed names k js = all (is_typed names k) js

-- whether one is a string above 24 bytes
unfoldable pub all_short : Names → Base → List Json → Bool
all_short names k js = not (any (long_atom k) (atoms_of names k js))

-- whether all are in the limits of a column
unfoldable pub all_within : Names → Column → List Json → Bool
all_within names c js = all_in_limits c (atoms_of names c.base js)

-- what is seen of one element: its atom too, where it is not a long string
pub record Sees (names : Names) (c : Column) (j : Json) (t s w : Bool) (a : List ℕ) : Type 0 where
  pub typed : t ≡ is_typed names c.base j
  pub short : s ≡ not (long_atom c.base (atom_as names c.base j))
  pub within : w ≡ atom_in_limits c c.base (atom_as names c.base j)
  pub atom : long_atom c.base (atom_as names c.base j) ≡ false → atom_as names c.base j ≡ a

-- an atom put at its place of the four, if there is one
unfoldable pub put_atom : ℕ → List ℕ → List (List ℕ) → List (List ℕ)
put_atom i a atoms = elim (ltb i most_elements) [ true ↦ set atoms i a | false ↦ atoms ]

-- what is seen of all elements: their atoms too, where they are at most four and none is a long string
pub record Tallied (names : Names) (c : Column) (js : List Json) (n : ℕ) (t s w : Bool) (atoms : List (List ℕ)) : Type 0 where
  pub count : n ≡ length js
  pub typed : t ≡ all_typed names c.base js
  pub short : s ≡ all_short names c.base js
  pub within : w ≡ all_within names c js
  pub gathered : all_short names c.base js ≡ true → length js ≤ most_elements → atoms ≡ (value_of (atoms_of names c.base js)).atoms
