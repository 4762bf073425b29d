-- The changes of document 01's first reading. Assumes nothing: these are definitions.
use Rattle.std.specs.Prelude.{ℕ, List, [], ◌∷◌}
use Rattle.model.specs.Octets.{value}
use Rattle.model.specs.Records.{Change, born, column, end}

-- "born (1), column (2, ..), end (3)", of a row of table 0 whose column 0 has one element
abbrev pub new_row : List ℕ → List (List ℕ) → List Change
new_row id atoms = born 0 (value id) ∷ column 0 (value id) 0 (record { count = 1; atoms = atoms }) ∷ end ∷ []
