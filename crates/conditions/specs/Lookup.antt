-- Columns named by values of a text, and arrays of a name, a word and a value. Assumes nothing: these are definitions.
use Rattle.std.specs.Prelude.{ℕ, ◌≡◌, Bool, true, false, ◌&&◌, List, Option, Some, None}
use Rattle.model.specs.Json.{Json}
use Rattle.inner.specs.Positions.{tree_at, well_at}
use Rattle.inner.specs.Positions as Text
use Rattle.model.specs.Schema.{Column, Schema, column_named, table_named}
use Rattle.model.specs.Written.{string_in}
use Rattle.model.specs.Conditions.{triple_in}

-- the place of the column that a value names, none where it is no string or names none
abbrev pub column_in : List Column → Json → Option ℕ
column_in cs j = elim (string_in j) [ None ↦ None | Some w ↦ column_named cs w ]

-- the number of the table that a value names, none where it is no string or names none
abbrev pub table_in : Schema → Json → Option ℕ
table_in s j = elim (string_in j) [ None ↦ None | Some w ↦ table_named s w ]

-- three places stand for a name, a word and a value
pub record Thrice (s : List ℕ) (a b c : ℕ) (j : Json) : Type 0 where
  pub all : triple_in j ≡ Some (record { name = Text.word_in (tree_at s a); word = Text.word_in (tree_at s b); value = tree_at s c })
  pub name : string_in (tree_at s a) ≡ Some (Text.word_in (tree_at s a))
  pub word : string_in (tree_at s b) ≡ Some (Text.word_in (tree_at s b))
  pub well : well_at s c ≡ true

unfoldable pub Triples : List ℕ → Option (ℕ × ℕ × ℕ) → Json → Type 0
Triples s (Some (a, b, c)) j = Thrice s a b c j
Triples s None j = triple_in j ≡ None

-- three places, where the first two are those of strings
unfoldable pub by_names : Bool → Bool → ℕ → ℕ → ℕ → Option (ℕ × ℕ × ℕ)
by_names x y a b c = elim (x && y) [ true ↦ Some (a, b, c) | false ↦ None ]
