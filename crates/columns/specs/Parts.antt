-- The members of an object that count, by their places. Assumes nothing: these are definitions.
use Rattle.std.specs.Prelude.{ℕ, zero, suc, ◌-◌, ◌<◌, ◌≡◌, List, [], ◌∷◌, map, Bool, true, false, ◌&&◌, leb, length, get_or, take}
use Rattle.model.specs.Base.{all}
use Rattle.model.specs.Octets.{eq_bytes}
use Rattle.model.specs.Json.{Json, Named, member_at, value_at}
use Rattle.model.specs.Nav.{kind_of, is_object, is_read}
use Rattle.model.specs.Members.{members_in, counting}
use Rattle.model.specs.SchemaText.{names, is_id}

-- the member at a place
abbrev pub member_of : List ℕ → ℕ → Named
member_of s p = (member_at (value_at 12 s) s p).tree

-- an object whose names are ids and of whose members at most so many count
unfoldable pub parts_few : ℕ → Json → Bool
parts_few most j = is_object (kind_of j) && (all is_id (names (members_in j)) && leb (length (counting (members_in j))) most)

-- that r of the places are those of the members of j that count; r is above `most` where j has too many, or is no object of ids
pub record Collected (s : List ℕ) (most : ℕ) (j : Json) (r : ℕ) (places : List ℕ) : Type 0 where
  pub few : leb r most ≡ parts_few most j
  pub are : leb r most ≡ true → map (member_of s) (take r places) ≡ counting (members_in j)
  pub well : leb r most ≡ true → (i : ℕ) → i < r → is_read (member_at (value_at 12 s) s (get_or places i 0)).read ≡ true

-- the place of a name among names, their number where it is none of them
abbrev pub met_at : List ℕ → List (List ℕ) → ℕ
met_at w [] = 0
met_at w (x ∷ xs) = elim (eq_bytes x w) [ true ↦ 0 | false ↦ suc (met_at w xs) ]

-- a list without what is at i, the list where it is shorter
abbrev pub without : {A : Type 0} → ℕ → List A → List A
without i [] = []
without zero (x ∷ xs) = xs
without (suc i) (x ∷ xs) = x ∷ without i xs

-- that what is at i went from the first n
pub record Dropped {A : Type 0} (i n : ℕ) (before after : List A) : Type 0 where
  pub size : length after ≡ length before
  pub are : take (n - 1) after ≡ without i (take n before)

-- that the first of n names that is w went, and its place, and r are left
pub record Forgotten (w : List ℕ) (n r : ℕ) (places places' : List ℕ) (names names' : List (List ℕ)) : Type 0 where
  pub count : r ≡ length (without (met_at w (take n names)) (take n names))
  pub size : length places' ≡ length places
  pub names_size : length names' ≡ length names
  pub places_are : take r places' ≡ without (met_at w (take n names)) (take n places)
  pub names_are : take r names' ≡ without (met_at w (take n names)) (take n names)
