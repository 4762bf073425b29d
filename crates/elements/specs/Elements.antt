-- The elements of a value as written, by places of the text. Assumes nothing: these are definitions.
use Rattle.std.specs.Prelude.{ℕ, ◌≡◌, Bool, true, false, List, [], ◌∷◌, Option, Some, None}
use Rattle.model.specs.Json.{Json}
use Rattle.inner.specs.Positions.{tree_at, well_at, items_from, items_fine, next_item}
use Rattle.model.specs.Written.{elements_in}

-- whether there are two
unfoldable pub is_pair : List Json → Bool
is_pair [] = false
is_pair (a ∷ []) = false
is_pair (a ∷ b ∷ []) = true
is_pair (a ∷ b ∷ c ∷ l) = false

-- two places stand for the two items of an array
unfoldable pub Pairs : List ℕ → Option (ℕ × ℕ) → List Json → Type 0
Pairs s (Some (a, b)) l = (l ≡ tree_at s a ∷ tree_at s b ∷ []) × (well_at s b ≡ true)
Pairs s None l = is_pair l ≡ false

-- the elements from a place on; where `set` is false the one there stands alone
unfoldable pub elements_from : List ℕ → Bool → Option ℕ → List Json
elements_from s true f = items_from s f
elements_from s false (Some p) = tree_at s p ∷ []
elements_from s false None = []

unfoldable pub elements_fine : List ℕ → Bool → Option ℕ → Bool
elements_fine s true f = items_fine s f
elements_fine s false (Some p) = well_at s p
elements_fine s false None = true

unfoldable pub next_element : List ℕ → Bool → ℕ → Option ℕ
next_element s true p = next_item s p
next_element s false p = None

-- a place that the elements of a value begin at: "one element is written bare, others as ["set",[..]]"
pub record Begins (s : List ℕ) (set : Bool) (f : Option ℕ) (j : Json) : Type 0 where
  pub all : elements_in j ≡ elements_from s set f
  pub fine : elements_fine s set f ≡ true
