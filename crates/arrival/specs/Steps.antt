-- What an arrival asks of working rows, and what it leaves (document 01, "What a mirror doesn't refuse it has heard .."). Assumes nothing: these are definitions.
use Rattle.std.specs.Prelude.{◌≡◌, Bool, true, false, not, ◌&&◌, List, [], ℕ, ◌+◌, ◌≤◌, max, eqb, leb, length, take, if◌then◌else◌, Option, Some, None}
use Rattle.model.specs.Base.{nth}
use Rattle.model.specs.Limits.{most_rows}
use Rattle.model.specs.Schema.{Schema}
use Rattle.model.specs.Rows.{Row}
use Rattle.model.specs.Records.{Change, act, fits, sound, is_end, Record, numbered, mark}
use Rattle.model.specs.Mirror.{Mirror, Step, bad, step, level, value_answer, column_answer}
use Rattle.model.specs.Areas.{row_from}
use Rattle.model.proofs.Order.{Good}
use Rattle.model.specs.Catalog.{packed_tables}
use Rattle.model.specs.declared.Status.TheVariants.{OtherRun, Repeat, Behind, Heard}
use Rattle.inner.specs.Working.{working, Tidy, Ordered}
use Rattle.record.specs.Reading.{canonical_in}
use Rattle.arrival.specs.declared.Head.{Head}
use Rattle.arrival.specs.declared.Numbers.{Numbers}
use Rattle.arrival.specs.declared.Outcome.{Outcome}

-- ── what a record carries ──
-- its run and its number, whether it is a mark, whether it ends a commit
unfoldable pub head_of : Option Record → Head
head_of None = record { run = 0; number = 0; marks = false; ends = false }
head_of (Some (numbered u k e)) = record { run = u; number = k; marks = false; ends = is_end e }
head_of (Some (mark u k)) = record { run = u; number = k; marks = true; ends = false }

-- refusal 8, "a value that isn't in canonical form for its type": the opposite
unfoldable pub canonical_record : Schema → Option Record → Bool
canonical_record s None = true
canonical_record s (Some (numbered u k e)) = canonical_in s e
canonical_record s (Some (mark u k)) = true

-- refusal 8, "a table or column the schema lacks, a value that isn't in canonical form for its type": the opposite
unfoldable pub sound_record : Schema → Option Record → Bool
sound_record s None = false
sound_record s (Some (numbered u k e)) = sound s e
sound_record s (Some (mark u k)) = true

-- refusal 8, "fit the rows"
unfoldable pub fits_record : List Row → Option Record → Bool
fits_record rows None = true
fits_record rows (Some (numbered u k e)) = fits e rows
fits_record rows (Some (mark u k)) = true

-- refusal 8, all of it, for a mirror that has applied n records
unfoldable pub bad_record : Schema → ℕ → List Row → Option Record → Bool
bad_record s n rows None = true
bad_record s n rows (Some (numbered u k e)) = bad s (record { rows = rows; n = n; top = 0; heard = false; whole = false }) k e
bad_record s n rows (Some (mark u k)) = false

-- "record n+1, which acts on the rows"
unfoldable pub act_record : Schema → Option Record → List Row → List Row
act_record s None rows = rows
act_record s (Some (numbered u k e)) rows = act s e rows
act_record s (Some (mark u k)) rows = rows

-- ── a mirror is its numbers and its rows ──
abbrev pub mirror_of : Numbers → List Row → Mirror
mirror_of m rows = record { rows = rows; n = m.n; top = m.top; heard = m.heard; whole = m.whole }

-- "the highest heard is the largest number carried by these"
unfoldable pub hears_of : Numbers → ℕ → Numbers
hears_of m k = record { n = m.n; top = max m.top k; heard = true; whole = m.whole }

-- "moves n by one"
unfoldable pub applies_of : Numbers → ℕ → Bool → Numbers
applies_of m k ends = record { n = k; top = max m.top k; heard = true; whole = ends }

-- "record n+1", of the mirror's run
unfoldable pub is_next : ℕ → Numbers → Head → Bool
is_next run m h = eqb h.run run && (not h.marks && eqb h.number (m.n + 1))

-- what another record that is not refused by 8 leaves: refusal 9, "heard to a mark", "repeat to a record numbered n or less (nothing changes), behind to one above n+1"
unfoldable pub heard_of : ℕ → Numbers → Head → ℕ → Outcome
heard_of run m h count =
    if not (eqb h.run run) then record { status = OtherRun; numbers = m; count = count }
    else if h.marks then record { status = Heard; numbers = hears_of m h.number; count = count }
    else if leb h.number m.n then record { status = Repeat; numbers = m; count = count }
    else record { status = Behind; numbers = hears_of m h.number; count = count }

unfoldable pub step_of : Schema → ℕ → Mirror → List ℕ → Step
step_of s run m x = step s run m x

unfoldable pub level_of : Numbers → Bool
level_of m = level (mirror_of m [])

-- "the count and atoms a column record would have, all zero where row or column is missing"
unfoldable pub column_in : Schema → List (List ℕ) → ℕ → List ℕ
column_in s row c = value_answer (nth (row_from s row).columns c)

unfoldable pub column_of : List Row → ℕ → ℕ → ℕ → List ℕ
column_of rows t i c = column_answer (record { rows = rows; n = 0; top = 0; heard = false; whole = false }) t i c

-- ── what the code needs and leaves ──
-- "rows in all tables together | 32", in order
pub record Ready (count : ℕ) (cells : List (List (List ℕ))) : Type 0 where
  pub few : count ≤ most_rows
  pub room : most_rows ≤ length cells
  pub ordered : Ordered count cells

-- a record that is neither unsound nor unfit
pub record Welcome (s : Schema) (rows : List Row) (o : Option Record) : Type 0 where
  pub sound : sound_record s o ≡ true
  pub fits : fits_record rows o ≡ true

-- the rows that a change leaves, as many as `left`; unused bytes stay zero
pub record Left (s : Schema) (rows : List Row) (count : ℕ) (entry : List (List (List ℕ))) (left : ℕ) (exit : List (List (List ℕ))) : Type 0 where
  pub same : working s left exit ≡ rows
  pub few : left ≤ most_rows
  pub tidy : Good s (working s count entry) → Tidy s (take count entry) → Tidy s (take left exit)

-- the same of a change: what it makes of the first rows
abbrev pub Acted : Schema → Change → ℕ → List (List (List ℕ)) → ℕ → List (List (List ℕ)) → Type 0
Acted s e count entry left exit = Left s (act s e (working s count entry)) count entry left exit

-- an arrival: the status and the mirror are the model's
pub record Stepped (schema : List (List ℕ)) (run : ℕ) (m : Numbers) (bytes : List ℕ) (count : ℕ) (entry exit : List (List (List ℕ))) (r : Outcome) : Type 0 where
  pub status : r.status ≡ (step_of (packed_tables schema) run (mirror_of m (working (packed_tables schema) count entry)) bytes).status
  pub next : mirror_of r.numbers (working (packed_tables schema) r.count exit) ≡ (step_of (packed_tables schema) run (mirror_of m (working (packed_tables schema) count entry)) bytes).next
  pub few : r.count ≤ most_rows
  pub tidy : Good (packed_tables schema) (working (packed_tables schema) count entry) → Tidy (packed_tables schema) (take count entry) → Tidy (packed_tables schema) (take r.count exit)
