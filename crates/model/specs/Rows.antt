-- Rows, kept in the order of their tables and, in a table, of their ids. Assumes nothing: these are definitions.
use Rattle.std.specs.Prelude.{ℕ, ◌+◌, ◌*◌, Bool, false, ◌||◌, List, [], ◌∷◌, map, eqb, ltb, get_or, set, if◌then◌else◌, Option, Some, None}
use Rattle.model.specs.Base.{keep}
use Rattle.model.specs.Schema.{Schema, columns_of}
use Rattle.model.specs.Value.{Value, value_of, initial}

-- an id is its 16 bytes read as a number
pub record Row : Type 0 where
  pub table : ℕ
  pub id : ℕ
  pub columns : List Value

-- rows lie in the order of this number
unfoldable pub key_of : ℕ → ℕ → ℕ
key_of t i = t * 340282366920938463463374607431768211456 + i

abbrev pub key : Row → ℕ
key r = key_of r.table r.id

-- the row under a key, a row put in at its place, taken out, with one column set
abbrev pub find : ℕ → List Row → Option Row
find k [] = None
find k (r ∷ rs) = if eqb k (key r) then Some r else find k rs

abbrev pub has : ℕ → List Row → Bool
has k [] = false
has k (r ∷ rs) = eqb k (key r) || has k rs

abbrev pub has_id : ℕ → List Row → Bool
has_id i [] = false
has_id i (r ∷ rs) = eqb i r.id || has_id i rs

abbrev pub add : Row → List Row → List Row
add n [] = n ∷ []
add n (r ∷ rs) = if ltb (key n) (key r) then n ∷ r ∷ rs else r ∷ add n rs

abbrev pub remove : ℕ → List Row → List Row
remove k [] = []
remove k (r ∷ rs) = if eqb k (key r) then rs else r ∷ remove k rs

abbrev pub set_column : ℕ → Value → Row → Row
set_column c v r = record { table = r.table; id = r.id; columns = set r.columns c v }

abbrev pub change : ℕ → ℕ → Value → List Row → List Row
change k c v [] = []
change k c v (r ∷ rs) = if eqb k (key r) then set_column c v r ∷ rs else r ∷ change k c v rs

abbrev pub initials : Schema → ℕ → List Value
initials s t = map initial (columns_of s t)

abbrev pub column_value : Row → ℕ → Value
column_value r c = get_or r.columns c (value_of [])

abbrev pub of_table : ℕ → List Row → List Row
of_table t rows = keep (λ (r : Row). eqb t r.table) rows
