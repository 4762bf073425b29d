-- A column looked up by a value of a text, one after another. Assumes nothing.
use Rattle.std.specs.Prelude.{Option, Some, None}
use mathlib.Core.Path.{◌≡◌, refl, ap, ◌∙◌}
use mathlib.Core.List.{List, [], ◌∷◌, map}
use mathlib.Core.Bool.{true, false}
use Prim.Native.Nat.{ℕ, ◌+◌, ◌<◌, ◌≤◌}
use lib.ListN.{length, get_or}
use Rattle.model.specs.Base.{place_of}
use Rattle.model.specs.Json.{Json, null, bool, num, str, arr, obj}
use Rattle.model.specs.Text.{is_word}
use Rattle.model.specs.Schema.{Column}
use Rattle.model.specs.Catalog.{entry_name, column_from}
use Rattle.catalog.specs.Entries.{entry_named}
use Rattle.catalog.proofs.Lookups.{found_from, left, named_start, named_here, named_next, named_end}
use Rattle.conditions.specs.Lookup.{column_in}

names_of : (cells : List (List ℕ)) → map (λ (c : Column). c.name) (map column_from cells) ≡ map entry_name cells
names_of [] = refl
names_of (x ∷ cells) = ap (λ l. entry_name x ∷ l) (names_of cells)

-- what is found from i on
abbrev pub column_found : List (List ℕ) → Json → ℕ → Option ℕ
column_found cells null i = None
column_found cells (bool b) i = None
column_found cells (num t) i = None
column_found cells (str t) i = found_from i (left cells t i)
column_found cells (arr xs) i = None
column_found cells (obj ms) i = None

module _ (cells : List (List ℕ)) where
  pub column_start : (j : Json) → (column_in (map column_from cells) j) ≡ column_found cells j 0
  unfolding entry_named
  column_start null = refl
  column_start (bool b) = refl
  column_start (num t) = refl
  column_start (str t) = ap (λ l. (place_of t l)) (names_of cells) ∙ named_start cells t
  column_start (arr xs) = refl
  column_start (obj ms) = refl

  module _ (i : ℕ) where
    pub column_end_lem : (j : Json) → length cells ≤ i → column_found cells j i ≡ None
    column_end_lem null h = refl
    column_end_lem (bool b) h = refl
    column_end_lem (num t) h = refl
    column_end_lem (str t) h = named_end cells t i h
    column_end_lem (arr xs) h = refl
    column_end_lem (obj ms) h = refl

    pub column_here : (j : Json) → i < length cells → is_word (entry_name (get_or cells i [])) j ≡ true → column_found cells j i ≡ Some i
    unfolding is_word
    column_here null h e = cc
    column_here (bool b) h e = cc
    column_here (num t) h e = cc
    column_here (str t) h e = named_here cells t i h e
    column_here (arr xs) h e = cc
    column_here (obj ms) h e = cc

    pub column_next : (j : Json) → i < length cells → is_word (entry_name (get_or cells i [])) j ≡ false → column_found cells j i ≡ column_found cells j (i + 1)
    unfolding is_word
    column_next null h e = refl
    column_next (bool b) h e = refl
    column_next (num t) h e = refl
    column_next (str t) h e = named_next cells t i h e
    column_next (arr xs) h e = refl
    column_next (obj ms) h e = refl
