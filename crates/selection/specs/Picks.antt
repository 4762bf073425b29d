-- The rows that a select answers, by marks of those that meet its conditions and flags of what is shown. Assumes nothing: these are definitions.
use Rattle.std.specs.Prelude.{ℕ, zero, suc, ◌+◌, Bool, true, false, not, ◌&&◌, ◌||◌, List, [], ◌∷◌, map, eqb, length, get_or}
use Rattle.model.specs.Base.{keep}
use Rattle.model.specs.Schema.{Column, columns_of}
use Rattle.model.specs.Value.{same_value}
use Rattle.model.specs.Rows.{Row}
use Rattle.model.specs.Answers.{rows_text}
use Rattle.model.specs.Conditions.{Test, matches}
use Rattle.model.specs.Operations.{row_text, same_shown, firsts}
use Rattle.model.specs.Areas.{row_from}
use Rattle.model.specs.Catalog.{packed_tables}
use Rattle.inner.specs.Working.{id_in, value_in}
use Rattle.catalog.specs.Entries.{columns_at}
use Rattle.json_writer.specs.Put.{Put}
use Rattle.marks.specs.Marks.{MarkedRows}
use Rattle.projection.specs.Shown.{row_shown}
use Rattle.selection.specs.Most.{result_most}
use Rattle.selection.specs.Shown.{Flagged}

-- whether two rows have the same values for k columns from c on, of those that are shown
abbrev pub same_from : List Bool → List (List ℕ) → List (List ℕ) → ℕ → ℕ → Bool
same_from flags x y c zero = true
same_from flags x y c (suc k) = (not (get_or flags (c + 1) false) || same_value (value_in c x) (value_in c y)) && same_from flags x y (suc c) k

-- whether two rows show the same
unfoldable pub same_by : List Bool → ℕ → List (List ℕ) → List (List ℕ) → Bool
same_by flags k x y = (not (get_or flags 0 false) || eqb (id_in x) (id_in y)) && same_from flags x y 0 k

-- whether a marked row before place j shows the same as x
abbrev pub repeated : List Bool → ℕ → List Bool → List (List (List ℕ)) → List (List ℕ) → ℕ → Bool
repeated flags k marks rows x zero = false
repeated flags k marks rows x (suc j) = (get_or marks j false && same_by flags k x (get_or rows j [])) || repeated flags k marks rows x j

-- whether the row at i is answered
unfoldable pub picked : List Bool → ℕ → List Bool → List (List (List ℕ)) → ℕ → Bool
picked flags k marks rows i = get_or marks i false && not (repeated flags k marks rows (get_or rows i []) i)

-- the objects of m rows from i on, of those that are answered
abbrev pub picked_from : List (List ℕ) → ℕ → List Bool → ℕ → List Bool → List (List (List ℕ)) → ℕ → ℕ → List (List ℕ)
picked_from schema t flags k marks rows i zero = []
picked_from schema t flags k marks rows i (suc m) =
    elim (picked flags k marks rows i) [
      | true ↦ row_shown schema t (get_or rows i []) flags ∷ picked_from schema t flags k marks rows (suc i) m
      | false ↦ picked_from schema t flags k marks rows (suc i) m
    ]

-- what a select answers
unfoldable pub selected : (List ℕ → Bool) → List Column → ℕ → List Test → List Row → List ℕ
selected show cs table ts rows = rows_text (map (row_text show cs) (firsts (same_shown show cs) [] (keep (matches table ts) rows)))

-- what it writes of rows that are marked, by flags: for all tests that the marks are of, and every choice of names that the flags are of
unfoldable pub Selected : List (List ℕ) → ℕ → List (List (List ℕ)) → List Bool → List Bool → List ℕ → ℕ → ℕ → List ℕ → Type 0
Selected schema t rows flags marks before at r after =
    (show : List ℕ → Bool) (ts : List Test) → Flagged show (columns_at schema t) flags → MarkedRows (columns_of (packed_tables schema) t) ts t (length rows) rows marks
    → Put result_most before at (selected show (columns_of (packed_tables schema) t) t ts (map (row_from (packed_tables schema)) rows)) r after
