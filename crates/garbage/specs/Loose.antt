-- The row that goes next, by its place. Assumes nothing: these are definitions.
use Rattle.std.specs.Prelude.{ℕ, ◌≤◌, ◌≡◌, Bool, not, ◌&&◌, List, eqb, take, Option, Some, None}
use Rattle.model.specs.Base.{any}
use Rattle.model.specs.Schema.{Schema}
use Rattle.model.specs.Rows.{Row, key}
use Rattle.model.specs.Commit.{strong_of, first_loose, collect}
use Rattle.inner.specs.Working.{working, place, Tidy, Ordered}

-- "a strong reference from a different row": row q holds the row under a key
unfoldable pub holds : Schema → ℕ → Row → Bool
holds s k q = not (eqb (key q) k) && any (eqb k) (strong_of s q)

-- the first loose row, by its key and its place; or none
unfoldable pub LooseAt : Schema → List Row → Option ℕ → Type 0
LooseAt s rows (Some i) = (k : ℕ) × (first_loose s rows rows ≡ Some k) × (place k rows ≡ Some i)
LooseAt s rows None = first_loose s rows rows ≡ None

-- what collection leaves of the first n rows
pub record Collected (s : Schema) (n m : ℕ) (entry exit : List (List (List ℕ))) : Type 0 where
  pub few : m ≤ n
  pub rows : working s m exit ≡ collect s n (working s n entry)
  pub tidy : Tidy s (take n entry) → Tidy s (take m exit)
  pub ordered : Ordered m exit
