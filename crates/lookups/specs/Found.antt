-- How many of several keys or ids are those of rows: what the calls answer. Assumes nothing: these are definitions.
use Rattle.std.specs.Prelude.{Bool, List, [], ◌∷◌, ℕ, ◌+◌, if◌then◌else◌}
use Rattle.model.specs.Rows.{Row, has, has_id}
use Rattle.model.specs.Areas.{ascends}

-- how many pass a test
abbrev pub count_true : (ℕ → Bool) → List ℕ → ℕ
count_true test [] = 0
count_true test (k ∷ ks) = (if test k then 1 else 0) + count_true test ks

-- rows that are not in order have none
abbrev pub keys_found : List Row → List ℕ → ℕ
keys_found rows keys = if ascends rows then count_true (λ (k : ℕ). has k rows) keys else 0

abbrev pub ids_found : List Row → List ℕ → ℕ
ids_found rows ids = if ascends rows then count_true (λ (i : ℕ). has_id i rows) ids else 0
