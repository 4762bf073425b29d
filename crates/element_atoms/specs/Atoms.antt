-- The atom that an element as written stands for. Assumes nothing: these are definitions.
use Rattle.std.specs.Prelude.{ℕ, ◌<◌, ◌≡◌, Bool, true, false, List, map, length, Option, Some, None}
use Rattle.model.specs.Limits.{most_text_bytes, atom_bytes}
use Rattle.model.specs.Json.{Json}
use Rattle.model.specs.Nav.{kind_of, is_text}
use Rattle.inner.specs.Positions.{word_in}
use Rattle.model.specs.Whole.{whole_of, is_whole, whole_int}
use Rattle.model.specs.Schema.{Base, text}
use Rattle.model.specs.Value.{blank, int_atom, bool_atom, text_atom}
use Rattle.model.specs.Written.{Names, bool_in, atom_in, long_atom}
use Rattle.element_atoms.specs.declared.Atom.{Atom}
use Rattle.element_atoms.specs.declared.Atom.TheVariants.{Wrong, Long, Fits}

-- an integer's atom, a truth value's
unfoldable pub integer_in : Json → Option (List ℕ)
integer_in j = elim (is_whole (whole_of j)) [ true ↦ Some (int_atom (whole_int (whole_of j))) | false ↦ None ]

unfoldable pub boolean_in : Json → Option (List ℕ)
boolean_in j = elim (bool_in j) [ None ↦ None | Some b ↦ Some (bool_atom b) ]

-- what reading a string as an atom says: "a string above our limits" is none that fits, and leaves a blank atom
unfoldable pub TextReads : Json → Atom → List ℕ → Type 0
TextReads j Wrong out = (is_text (kind_of j) ≡ false) × (out ≡ blank)
TextReads j Fits out = (is_text (kind_of j) ≡ true) × (out ≡ text_atom (word_in j)) × (length (word_in j) < atom_bytes)
TextReads j Long out = (is_text (kind_of j) ≡ true) × (most_text_bytes < length (word_in j)) × (out ≡ blank)

-- the atom of an element, and the blank one where it is mistyped
unfoldable pub cell_of : Option (List ℕ) → List ℕ
cell_of None = blank
cell_of (Some a) = a

unfoldable pub atom_as : Names → Base → Json → List ℕ
atom_as names k j = cell_of (atom_in names k j)

-- the same of all elements
unfoldable pub atoms_of : Names → Base → List Json → List (List ℕ)
atoms_of names k js = map (atom_as names k) js

-- what reading an element says: mistyped, a string that is too long, both with a blank atom, or an atom that fits 25 bytes
unfoldable pub Reads : Names → Base → Json → Atom → List ℕ → Type 0
Reads names k j Wrong out = (atom_in names k j ≡ None) × (out ≡ blank)
Reads names k j Fits out = (atom_in names k j ≡ Some out) × (long_atom k out ≡ false)
Reads names k j Long out = (k ≡ text) × (is_text (kind_of j) ≡ true) × (most_text_bytes < length (word_in j)) × (out ≡ blank)

-- an atom left as it is where it was read, and a blank one where not
unfoldable pub FitsIf : Bool → List ℕ → Atom → List ℕ → Type 0
FitsIf true before r out = (r ≡ Fits) × (out ≡ before)
FitsIf false before r out = (r ≡ Wrong) × (out ≡ blank)
