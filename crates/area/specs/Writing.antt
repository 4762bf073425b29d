-- What is read of an area's numbers and flags, and what is written to it part by part. Assumes nothing: these are definitions.
use Rattle.std.specs.Prelude.{ℕ, ◌+◌, ◌-◌, ◌*◌, Bool, true, false, not, ◌&&◌, ◌||◌, List, [], ◌∷◌, ◌++◌, eqb, leb, get_or, take, drop, replicate, Option, Some, None}
use Rattle.model.specs.Octets.{big, value, part}
use Rattle.model.specs.Limits.{most_rows, number_bytes, row_bytes, number_offset, top_offset, heard_offset, whole_offset}
use Rattle.model.specs.Schema.{Database}
use Rattle.model.specs.Areas.{Store}
use Rattle.model.specs.Catalog.{bit}
use Rattle.inner.specs.Working.{working}
use Rattle.area.specs.Layout.{bytes_of}

-- ── a mirror's own six bytes: highest heard 4, whether anything was heard 1, whether n is 0 or ends a commit 1 ──
abbrev pub top_in : List ℕ → ℕ
top_in a = value (part top_offset number_bytes a)

abbrev pub number_in : List ℕ → ℕ
number_in a = value (part number_offset number_bytes a)

-- two flags; "n at most the highest heard"; one that has heard nothing has highest 0, and n = 0 is whole
unfoldable pub tail_good : List ℕ → Bool
tail_good a =
    leb (get_or a heard_offset 0) 1 && leb (get_or a whole_offset 0) 1 && leb (number_in a) (top_in a) && (eqb (get_or a heard_offset 0) 1 || eqb (top_in a) 0) && (eqb (get_or a whole_offset 0) 1 || not (eqb (number_in a) 0))

unfoldable pub tail_bytes : ℕ → Bool → Bool → List ℕ
tail_bytes top heard whole = big number_bytes top ++ bit heard ∷ bit whole ∷ []

-- ── what is written ──
-- n bytes put at a place; the others stay
unfoldable pub placed : ℕ → ℕ → List ℕ → List ℕ → List ℕ
placed at n b a = take at a ++ (b ++ drop (at + n) a)

-- the count of the rows, the rows, and zeros for those that there are not
unfoldable pub rows_part : ℕ → List (List (List ℕ)) → List ℕ
rows_part n cells = n ∷ bytes_of (take n cells) ++ replicate (row_bytes * (most_rows - n)) 0

-- the store of a run, a number, a database and rows in cells
unfoldable pub store_in : Database → ℕ → ℕ → ℕ → List (List (List ℕ)) → Store
store_in d run number n cells = record { run = run; number = number; database = d; rows = working d.tables n cells }

-- a state where a test passes, or none
abbrev pub when : {S : Type 0} → Bool → S → Option S
when true s = Some s
when false s = None
