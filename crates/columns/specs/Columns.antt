-- A column as its cell. Assumes nothing: these are definitions.
use Rattle.std.specs.Prelude.{ℕ, ◌≡◌, Bool, true, false, ◌||◌, List, [], ◌∷◌, map, eqb, leb, ltb, length, get_or, take, drop}
use Rattle.model.specs.Limits.{most_columns}
use Rattle.model.specs.Base.{all, every}
use Rattle.model.specs.Json.{Json, Named}
use Rattle.model.specs.Members.{members_in, counting}
use Rattle.model.specs.Catalog.{column_from, bit}
use Rattle.catalog.specs.Writing.{column_bytes}
use Rattle.model.specs.SchemaText.{names, is_bool, is_id, column_fits, column_of, columns_fit}
use Rattle.members.specs.Fields.{most_words, slot_tree}
use Rattle.column_types.specs.declared.Shape.{Shape}
use Rattle.column_types.specs.Types.{TypeRead}
use Rattle.columns.specs.Parts.{member_of}
use Rattle.columns.specs.declared.Read.{Read}

-- a number that is a byte, 0 where it is none
unfoldable pub small : ℕ → ℕ
small x = elim (ltb x 256) [ true ↦ x | false ↦ 0 ]

-- what follows the name in a column's cell
unfoldable pub shape_bytes : Shape → Bool → List ℕ
shape_bytes t mutable =
    let k = t.key in
    column_bytes (record { base = k.base; how = k.how; target = k.target; min = small t.min; max = small t.max; mutable = bit mutable; low = k.low; high = k.high })

-- the type in a slot
pub record TypeIn (s : List ℕ) (tables : List (List ℕ)) (p : ℕ) (r : Shape) : Type 0 where
  pub none : eqb p 0 ≡ true → r.fits ≡ false
  pub some : eqb p 0 ≡ false → TypeRead tables (slot_tree s p) r

-- the tests of a column by its slots
abbrev pub truth_allowed : List ℕ → ℕ → Bool
truth_allowed s p = eqb p 0 || is_bool (slot_tree s p)

unfoldable pub column_allowed : List ℕ → List ℕ → Bool → Bool
column_allowed s f typed = every (eqb (get_or f most_words 0) 0 ∷ typed ∷ truth_allowed s (get_or f 1 0) ∷ truth_allowed s (get_or f 2 0) ∷ [])

-- what was read of the column m
pub record ColumnRead (tables : List (List ℕ)) (m : Named) (r : Read) : Type 0 where
  pub fits : r.fits ≡ column_fits tables m.value
  pub column : is_id m.name ≡ true → r.fits ≡ true → column_from r.cell ≡ column_of tables m

-- and of the columns at n places, in the order of the places
pub record ColumnsPut (s : List ℕ) (tables : List (List ℕ)) (n : ℕ) (places : List ℕ) (r : Bool) (before after : List (List ℕ)) : Type 0 where
  pub fits : r ≡ all (λ (m : Named). column_fits tables m.value) (map (member_of s) (take n places))
  pub columns : all is_id (names (map (member_of s) (take n places))) ≡ true → r ≡ true → map column_from (take n after) ≡ map (column_of tables) (map (member_of s) (take n places))
  pub rest : drop most_columns after ≡ drop most_columns before

-- what was read of the columns j: r of them, above the most where they do not fit, at the front of some cells
pub record ColumnsRead (tables : List (List ℕ)) (j : Json) (r : ℕ) (before after : List (List ℕ)) : Type 0 where
  pub fits : leb r most_columns ≡ columns_fit tables j
  pub count : leb r most_columns ≡ true → r ≡ length (counting (members_in j))
  pub columns : leb r most_columns ≡ true → map column_from (take r after) ≡ map (column_of tables) (counting (members_in j))
  pub rest : drop most_columns after ≡ drop most_columns before
