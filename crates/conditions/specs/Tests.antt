-- Conditions by places of the text. Assumes nothing: these are definitions.
use Rattle.marks.specs.declared.Place.TheVariants as place
use Rattle.std.specs.Prelude.{ℕ, ◌<◌, ◌≡◌, Bool, true, false, not, ◌&&◌, List, [], map, eqb, leb, length, get_or, take, if◌then◌else◌, Option, Some, None}
use Rattle.model.specs.Limits.{most_elements}
use Rattle.model.specs.Base.{any}
use Rattle.model.specs.Json.{Json}
use Rattle.inner.specs.Positions.{tree_at, items_from}
use Rattle.model.specs.Schema.{Base, Column, Schema, columns_of}
use Rattle.model.specs.Faults.{is_fine, Judged}
use Rattle.model.specs.Value.{value_of}
use Rattle.model.specs.Written.{Names, string_in, long_atom, test_fault, written}
use Rattle.model.specs.Areas.{row_from}
use Rattle.inner.specs.Working.{table_in}
use Rattle.model.specs.Conditions.{Subject, id_column, subject_named, function_named, orders, allowed, Test, test_of, read_test, read_tests, compare, holds}
use Rattle.model.specs.Catalog.{column_from}
use Rattle.model.specs.declared.Fault.{Fault}
use Rattle.model.specs.declared.Fault.TheVariants.{Syntax}
use Rattle.model.specs.declared.Function.{Function}
use Rattle.model.specs.declared.Function.TheVariants.{Less, AtMost, Equal, Unequal, AtLeast, Greater, Includes, Excludes}
use Rattle.uuids.specs.Named.{names_at}
use Rattle.request_values.specs.Values.{atoms_as}
use Rattle.marks.specs.declared.Place.{Place}
use Rattle.marks.specs.Marks.{kept_as, atoms_at, OfTable, Narrowed, MarkedRows}

-- ── functions ──
-- by their numbers, in the order of RFC 7047
unfoldable pub function_by : ℕ → Option Function
function_by k =
    if eqb k 0 then Some Less
    else if eqb k 1 then Some AtMost
    else if eqb k 2 then Some Equal
    else if eqb k 3 then Some Unequal
    else if eqb k 4 then Some AtLeast
    else if eqb k 5 then Some Greater
    else if eqb k 6 then Some Includes
    else if eqb k 7 then Some Excludes
    else None

-- the function that a value names
unfoldable pub function_in : Json → Option Function
function_in j = elim (string_in j) [ None ↦ None | Some w ↦ function_named w ]

-- ── subjects ──
-- the subject that a value names
unfoldable pub subject_in : List Column → Json → Option Subject
subject_in cs j = elim (string_in j) [ None ↦ None | Some w ↦ subject_named cs w ]

-- what a name stands for, of columns in cells
unfoldable pub About : List (List ℕ) → Option Place → Option Subject → Type 0
About cells (Some (place.Column k)) o = (k < length cells) × (o ≡ Some (record { place = Some k; column = column_from (get_or cells k []) }))
About cells (Some place.Id) o = o ≡ Some (record { place = None; column = id_column })
About cells None o = o ≡ None

-- ── conditions ──
-- how one on a column is judged
unfoldable pub column_fault : Names → Column → Function → Json → Fault
column_fault names c f j = elim (allowed c f) [ true ↦ (written names c.base (test_fault c f) j).fault | false ↦ Syntax ]

-- one by its name, its function and its value
unfoldable pub test_as : Names → List Column → Json → Option Function → Json → Judged Test
test_as names cs name f value = test_of names value (subject_in cs name) f

-- the one at a position
unfoldable pub test_at : List ℕ → List ℕ → List (List ℕ) → ℕ → Judged Test
test_at text names columns at = read_test (names_at text names) (map column_from columns) (tree_at text at)

-- those from a place on
unfoldable pub tests_at : List ℕ → List ℕ → List (List ℕ) → Option ℕ → Judged (List Test)
tests_at text names columns f = read_tests (names_at text names) (map column_from columns) (items_from text f)

-- ── marks ──
-- atoms that fit four places of 25 bytes
unfoldable pub fits : Base → List (List ℕ) → Bool
fits k l = leb (length l) most_elements && not (any (long_atom k) l)

-- the first n atoms of a condition as they are kept
unfoldable pub KeptAs : Function → Base → ℕ → List (List ℕ) → List (List ℕ) → Type 0
KeptAs f k n entry exit = (l : List (List ℕ)) → n ≡ length l → entry ≡ (value_of l).atoms → take n exit ≡ kept_as f k l

unfoldable pub storing : Bool → Function
storing true = Includes
storing false = Excludes

-- a value that no column can have, of a function that is not one of order
pub record Beyond (names : Names) (k : Base) (f : Function) (j : Json) : Type 0 where
  pub unordered : orders f ≡ false
  pub unfit : fits k (atoms_as names k j) ≡ false

-- what a condition on a column comes to: its fault r; where that is none the marks are narrowed by it, and else they stay
pub record ValueNarrowed (names : Names) (c : Column) (place : Place) (f : Function) (j : Json) (r : Fault) (rows : List (List (List ℕ))) (before after : List Bool) : Type 0 where
  pub fault : r ≡ column_fault names c f j
  pub marks : is_fine (column_fault names c f j) ≡ true → Narrowed (λ row. compare f c.base (atoms_at place row) (atoms_as names c.base j)) rows before after
  pub still : is_fine (column_fault names c f j) ≡ false → after ≡ before

-- the same of a condition that is read; a row is asked as one of a table with the columns cs
pub record TestNarrowed (cs : List Column) (t : Judged Test) (r : Fault) (rows : List (List (List ℕ))) (before after : List Bool) : Type 0 where
  pub fault : r ≡ t.fault
  pub marks : is_fine t.fault ≡ true → (q : List (List ℕ) → Bool) × Narrowed q rows before after × ((s : Schema) (row : List (List ℕ)) → columns_of s (table_in row) ≡ cs → q row ≡ holds (row_from s row) t.got)
  pub still : is_fine t.fault ≡ false → after ≡ before

-- what all conditions come to: their fault r; where that is none, marks of a table's rows become those of its rows that meet them; else they are free
pub record TestsNarrowed (cs : List Column) (ts : Judged (List Test)) (r : Fault) (rows : List (List (List ℕ))) (before after : List Bool) : Type 0 where
  pub fault : r ≡ ts.fault
  pub marks : is_fine ts.fault ≡ true → (table : ℕ) → OfTable table rows before → MarkedRows cs ts.got table (length rows) rows after
