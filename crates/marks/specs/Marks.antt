-- Marks of rows: which of them meet conditions, and what a condition says of a row in cells. Assumes nothing: these are definitions.
use Rattle.std.specs.Prelude.{ℕ, zero, suc, ◌≤◌, ◌<◌, ◌≡◌, Bool, true, false, not, ◌&&◌, List, [], ◌∷◌, eqb, length, get_or, take, Option, Some, None}
use Rattle.std.specs.Int.Signed.{lt_z, le_z}
use Rattle.model.specs.Limits.{most_columns, most_elements, atom_bytes}
use Rattle.model.specs.Base.{any, all, member, eq_lists, keep}
use Rattle.model.specs.Schema.{Base, Column, Schema, columns_of}
use Rattle.model.specs.Value.{uuid_atom, elements, sorted}
use Rattle.model.specs.Rows.{Row}
use Rattle.model.specs.Conditions.{Test, first_int, matches}
use Rattle.model.specs.Areas.{row_from}
use Rattle.model.specs.declared.Function.{Function}
use Rattle.model.specs.declared.Function.TheVariants.{Less, AtMost, Equal, Unequal, AtLeast, Greater, Includes, Excludes}
use Rattle.inner.specs.Working.{working, table_in, id_in, value_in, Tidy}
use Rattle.marks.specs.declared.Place.{Place}
use Rattle.marks.specs.declared.Place.TheVariants.{Column as OfColumn, Id}

-- ── a condition on a row in cells ──
-- each element of l is among xs, or none is
unfoldable pub every : Bool → List (List ℕ) → List (List ℕ) → Bool
every true xs l = all (λ (a : List ℕ). member a xs) l
every false xs l = not (any (λ (a : List ℕ). member a xs) l)

-- what a function says of the elements xs of a column and those that were written, as they are kept
unfoldable pub met : Function → List (List ℕ) → List (List ℕ) → Bool
met Less xs l = lt_z (first_int xs) (first_int l)
met AtMost xs l = le_z (first_int xs) (first_int l)
met Equal xs l = eq_lists xs l
met Unequal xs l = not (eq_lists xs l)
met AtLeast xs l = le_z (first_int l) (first_int xs)
met Greater xs l = lt_z (first_int l) (first_int xs)
met Includes xs l = every true xs l
met Excludes xs l = every false xs l

-- how they are kept: sorted where they are to be equal
unfoldable pub kept_as : Function → Base → List (List ℕ) → List (List ℕ)
kept_as Less k l = l
kept_as AtMost k l = l
kept_as Equal k l = sorted k l
kept_as Unequal k l = sorted k l
kept_as AtLeast k l = l
kept_as Greater k l = l
kept_as Includes k l = l
kept_as Excludes k l = l

-- a place that a row has, as the model says it, and its elements
unfoldable pub InRow : Place → Type 0
InRow (OfColumn c) = c < most_columns
InRow Id = Unit

unfoldable pub place_of : Place → Option ℕ
place_of (OfColumn c) = Some c
place_of Id = None

unfoldable pub atoms_at : Place → List (List ℕ) → List (List ℕ)
atoms_at (OfColumn c) row = elements (value_in c row)
atoms_at Id row = uuid_atom (id_in row) ∷ []

-- what any column can have
pub record Sized (xs : List (List ℕ)) : Type 0 where
  pub few : length xs ≤ most_elements
  pub bytes : all (λ (x : List ℕ). eqb (length x) atom_bytes) xs ≡ true

-- ── marks ──
-- marks of the rows of a table
unfoldable pub OfTable : ℕ → List (List (List ℕ)) → List Bool → Type 0
OfTable table rows marks = (i : ℕ) → i < length rows → get_or marks i false ≡ eqb table (table_in (get_or rows i []))

-- marks that stay where a test of the row holds; those after the rows stay
pub record Narrowed (p : List (List ℕ) → Bool) (rows : List (List (List ℕ))) (before after : List Bool) : Type 0 where
  pub size : length after ≡ length before
  pub here : (i : ℕ) → i < length rows → get_or after i false ≡ (get_or before i false && p (get_or rows i []))
  pub beyond : (i : ℕ) → length rows ≤ i → get_or after i false ≡ get_or before i false

-- marks of the first n rows: which of them are of a table, one with the columns cs, and meet all conditions
unfoldable pub MarkedRows : List Column → List Test → ℕ → ℕ → List (List (List ℕ)) → List Bool → Type 0
MarkedRows cs ts table n rows marks = (s : Schema) → columns_of s table ≡ cs → (i : ℕ) → i < n → get_or marks i false ≡ matches table ts (row_from s (get_or rows i []))

-- how many of the first n are marked
unfoldable pub marked : List Bool → ℕ → ℕ
marked marks zero = 0
marked marks (suc n) = elim (get_or marks n false) [ true ↦ suc (marked marks n) | false ↦ marked marks n ]

-- the first n rows without those of a table that meet all conditions, r of them
pub record Deleted (cs : List Column) (table : ℕ) (tests : List Test) (n r : ℕ) (entry exit : List (List (List ℕ))) : Type 0 where
  pub rows : (s : Schema) → columns_of s table ≡ cs → working s r exit ≡ keep (λ (q : Row). not (matches table tests q)) (working s n entry)
  pub few : r ≤ n
  pub tidy : (s : Schema) → Tidy s (take n entry) → Tidy s (take r exit)
