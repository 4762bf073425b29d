-- Where an atom stands among atoms in order. Assumes nothing: these are definitions.
use Rattle.std.specs.Prelude.{ℕ, suc, List, [], ◌∷◌, if◌then◌else◌}
use Rattle.model.specs.Schema.{Base}
use Rattle.model.specs.Value.{less_atom}

-- how many stand before the first that x is less than
abbrev pub place_in : Base → List ℕ → List (List ℕ) → ℕ
place_in k x [] = 0
place_in k x (b ∷ l) = if less_atom k x b then 0 else suc (place_in k x l)
