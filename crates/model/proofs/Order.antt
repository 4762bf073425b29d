-- What holds of the rows of a store: the invariant that proofs carry. Assumes nothing: these are definitions.
use mathlib.Core.Path.{◌≡◌}
use mathlib.Core.Bool.{true, false}
use mathlib.Core.List.{List, [], ◌∷◌}
use Prim.Native.Nat.{ℕ, ◌^◌, ◌≤◌, ◌<◌}
use lib.ListN.{length}
use Rattle.model.specs.Limits.{most_rows}
use Rattle.model.specs.Schema.{Column, Schema, columns_of}
use Rattle.model.specs.Value.{Value, canonical_for, meets}
use Rattle.model.specs.Rows.{Row, key, has_id}
use Rattle.model.specs.Records.{known}

-- every key is above k; "table order, ids ascending": the keys ascend; "ids are distinct"
abbrev pub Above : ℕ → List Row → Type 0
Above k [] = Unit
Above k (r ∷ rs) = (k < key r) × Above k rs

abbrev pub Sorted : List Row → Type 0
Sorted [] = Unit
Sorted (r ∷ rs) = Above (key r) rs × Sorted rs

abbrev pub Distinct : List Row → Type 0
Distinct [] = Unit
Distinct (r ∷ rs) = (has_id r.id rs ≡ false) × Distinct rs

-- "every value is canonical": as many values as columns, each in its column's canonical form
abbrev pub Typed : List Column → List Value → Type 0
Typed [] [] = Unit
Typed [] (v ∷ vs) = ⊥
Typed (c ∷ cs) [] = ⊥
Typed (c ∷ cs) (v ∷ vs) = (canonical_for c v ≡ true) × Typed cs vs

-- a row of a table that the schema has, "ids are .. not zero"
pub record Fine (s : Schema) (r : Row) : Type 0 where
  pub here : known s r.table r.id ≡ true
  pub short : r.id < 256 ^ 16
  pub typed : Typed (columns_of s r.table) r.columns

abbrev pub AllFine : Schema → List Row → Type 0
AllFine s [] = Unit
AllFine s (r ∷ rs) = Fine s r × AllFine s rs

-- "rows in all tables together | 32", and the above
pub record Good (s : Schema) (rows : List Row) : Type 0 where
  pub sorted : Sorted rows
  pub distinct : Distinct rows
  pub fine : AllFine s rows
  pub few : length rows ≤ most_rows

-- "every value is canonical and meets its type"
abbrev pub Meets : List Column → List Value → Type 0
Meets [] [] = Unit
Meets [] (v ∷ vs) = ⊥
Meets (c ∷ cs) [] = ⊥
Meets (c ∷ cs) (v ∷ vs) = (meets c v ≡ true) × Meets cs vs

abbrev pub AllMeet : Schema → List Row → Type 0
AllMeet s [] = Unit
AllMeet s (r ∷ rs) = Meets (columns_of s r.table) r.columns × AllMeet s rs
