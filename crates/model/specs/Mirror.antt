-- The mirror: what it answers to an arrival and to a question, and what it is then (document 01, "What a mirror doesn't refuse it has heard .."). Assumes nothing: these are definitions.
use Rattle.std.specs.Prelude.{ℕ, suc, max, Bool, true, false, not, ◌&&◌, ◌||◌, List, [], ◌∷◌, eqb, leb, replicate, if◌then◌else◌, Option, Some, None}
use Rattle.model.specs.Limits.{value_width}
use Rattle.model.specs.Base.{nth}
use Rattle.model.specs.Schema.{Schema}
use Rattle.model.specs.Value.{Value}
use Rattle.model.specs.Rows.{Row, key_of, find, has}
use Rattle.model.specs.declared.Status.{Status}
use Rattle.model.specs.declared.Status.TheVariants.{BadRecord, OtherRun, Repeat, Behind, Heard, Applied}
use Rattle.model.specs.Records.{Change, act, fits, sound, is_end, Record, numbered, mark, decode, value_bytes}

-- its rows, n: how many records made them, "the highest heard", whether anything was heard, whether n is 0 or ends a commit
pub record Mirror : Type 0 where
  pub rows : List Row
  pub n : ℕ
  pub top : ℕ
  pub heard : Bool
  pub whole : Bool

-- "makes no rows and number 0"; "the highest heard is .. 0 if none"
abbrev pub fresh : Mirror
fresh = record { rows = []; n = 0; top = 0; heard = false; whole = true }

-- "it tells .. whether it is level" (reading 47)
abbrev pub level : Mirror → Bool
level m = m.heard && eqb m.n m.top && m.whole

-- "It answers repeat .., behind .., heard to a mark .., and applied"; or a refusal
pub record Step : Type 0 where
  pub status : Status
  pub next : Mirror

-- "the highest heard is the largest number carried by these"; "only the highest heard changes"
abbrev pub hears : Mirror → ℕ → Mirror
hears m k = record { rows = m.rows; n = m.n; top = max m.top k; heard = true; whole = m.whole }

-- "applied to record n+1, which acts on the rows and moves n by one"
abbrev pub applies : Schema → Mirror → Change → Mirror
applies s m e = record { rows = act s e m.rows; n = suc m.n; top = max m.top (suc m.n); heard = true; whole = is_end e }

-- refusal 8, "number 0 (marks excepted), ..., or is number n+1 and doesn't fit the rows"
abbrev pub bad : Schema → Mirror → ℕ → Change → Bool
bad s m k e = not (sound s e) || eqb k 0 || (eqb k (suc m.n) && not (fits e m.rows))

-- refusal 8 before refusal 9; "repeat to a record numbered n or less (nothing changes), behind to one above n+1 .., heard to a mark .., applied to record n+1"
abbrev pub on_record : Schema → ℕ → Mirror → Record → Step
on_record s run m (mark u k) =
    if not (eqb u run) then record { status = OtherRun; next = m }
    else record { status = Heard; next = hears m k }
on_record s run m (numbered u k e) =
    if bad s m k e then record { status = BadRecord; next = m }
    else if not (eqb u run) then record { status = OtherRun; next = m }
    else if leb k m.n then record { status = Repeat; next = m }
    else if eqb k (suc m.n) then record { status = Applied; next = applies s m e }
    else record { status = Behind; next = hears m k }

abbrev pub on_read : Schema → ℕ → Mirror → Option Record → Step
on_read s run m None = record { status = BadRecord; next = m }
on_read s run m (Some l) = on_record s run m l

-- one arrival
abbrev pub step : Schema → ℕ → Mirror → List ℕ → Step
step s run m x = on_read s run m (decode x)

-- "What a mirror doesn't refuse it has heard": the numbers carried by those
abbrev pub number_carried : Option Record → ℕ
number_carried None = 0
number_carried (Some (numbered u k e)) = k
number_carried (Some (mark u k)) = k

-- "the highest heard is the largest number carried by these, 0 if none"
abbrev pub highest : List ℕ → ℕ
highest [] = 0
highest (k ∷ ks) = max k (highest ks)

abbrev pub something : List ℕ → Bool
something [] = false
something (k ∷ ks) = true

-- ── questions ──
-- "by table and id whether the row is there"
abbrev pub has_row : Mirror → ℕ → ℕ → Bool
has_row m t i = has (key_of t i) m.rows

-- "by table, id and column the count and atoms a column record would have, all zero where row or column is missing"
abbrev pub column_bytes : ℕ
column_bytes = value_width

abbrev pub value_answer : Option Value → List ℕ
value_answer None = replicate column_bytes 0
value_answer (Some v) = value_bytes v

abbrev pub row_answer : Option Row → ℕ → List ℕ
row_answer None c = replicate column_bytes 0
row_answer (Some r) c = value_answer (nth r.columns c)

abbrev pub column_answer : Mirror → ℕ → ℕ → ℕ → List ℕ
column_answer m t i c = row_answer (find (key_of t i) m.rows) c
