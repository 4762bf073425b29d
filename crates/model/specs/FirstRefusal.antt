-- Which refusal a call gets: for each call when each refusal applies, and the first that does, by document 01's numbers. Assumes nothing: these are definitions.
use Rattle.std.specs.Prelude.{ℕ, suc, ◌+◌, Bool, true, false, not, ◌&&◌, List, [], ◌∷◌, eqb, leb, length, if◌then◌else◌, Option, Some, None}
use Rattle.model.specs.Octets.{eq_bytes}
use Rattle.model.specs.Limits.{store_bytes, mirror_bytes, fresh_bytes, least_records, least_answer, least_mark, last_number}
use Rattle.model.specs.Base.{every, is_some}
use Rattle.model.specs.Schema.{Schema}
use Rattle.model.specs.SchemaText.{read_schema}
use Rattle.model.specs.Transact.{read_request, fresh_ids, ids_good}
use Rattle.model.specs.Records.{Record, numbered, mark, decode}
use Rattle.model.specs.Mirror.{Mirror, bad, column_bytes}
use Rattle.model.specs.Areas.{store_of, mirror_of}
use Rattle.model.specs.Sane.{sane}
use Rattle.model.specs.Laid.{mirror_or, held, asks, changes_laid, text_laid}

-- a refusal's number, and whether it applies
pub record Condition : Type 0 where
  pub number : ℕ
  pub applies : Bool

-- "Refusals are checked in this order"
abbrev pub refusal_order : List ℕ
refusal_order = 2 ∷ 1 ∷ 3 ∷ 4 ∷ 5 ∷ 6 ∷ 7 ∷ 10 ∷ 8 ∷ 9 ∷ []

-- whether the refusal of that number applies; one that a call has no condition for never does
abbrev pub does_apply : ℕ → List Condition → Bool
does_apply k [] = false
does_apply k (c ∷ cs) = elim (eqb k c.number) [ true ↦ c.applies | false ↦ does_apply k cs ]

-- the first of some numbers whose refusal applies; d where none does
abbrev pub first_of : List ℕ → List Condition → ℕ → ℕ
first_of [] cs d = d
first_of (k ∷ ks) cs d = elim (does_apply k cs) [ true ↦ k | false ↦ first_of ks cs d ]

abbrev pub given : List Condition → ℕ → ℕ
given cs d = first_of refusal_order cs d

-- ── starting, of an area of so many bytes ──
abbrev pub start_conditions : ℕ → List ℕ → List ℕ → List Condition
start_conditions bytes area schema =
    record { number = 2; applies = not (eqb (length area) bytes) }
    ∷ record { number = 3; applies = not (is_some (read_schema schema)) }
    ∷ []

unfoldable pub store_start_number : List ℕ → List ℕ → ℕ
store_start_number area schema = given (start_conditions store_bytes area schema) 0

unfoldable pub mirror_start_number : List ℕ → List ℕ → ℕ
mirror_start_number area schema = given (start_conditions mirror_bytes area schema) 0

-- ── transact: refusal 3 never applies, since the schema of an area in good order keeps every rule ──
abbrev pub transact_conditions : List ℕ → List ℕ → List ℕ → List ℕ → List ℕ → List Condition
transact_conditions area request fresh records text =
    record { number = 2; applies = not (every (eqb (length area) store_bytes ∷ eqb (length fresh) fresh_bytes ∷ leb least_records (length records) ∷ leb least_answer (length text) ∷ [])) }
    ∷ record { number = 1; applies = not (is_some (store_of area)) }
    ∷ record { number = 3; applies = not (sane (held area request fresh).database) }
    ∷ record { number = 4; applies = not (is_some (read_request request)) }
    ∷ record { number = 5; applies = not (eq_bytes (asks area request fresh).name (held area request fresh).database.name) }
    ∷ record { number = 6; applies = not (ids_good (fresh_ids fresh) (held area request fresh).rows) }
    ∷ record { number = 7; applies = not (leb (length (text_laid area request fresh)) (length text)) }
    ∷ record { number = 10; applies = not (leb ((held area request fresh).number + length (changes_laid area request fresh)) last_number) }
    ∷ []

unfoldable pub transact_number : List ℕ → List ℕ → List ℕ → List ℕ → List ℕ → ℕ
transact_number area request fresh records text = given (transact_conditions area request fresh records text) 0

-- ── a mark ──
abbrev pub mark_conditions : List ℕ → List ℕ → List Condition
mark_conditions area out =
    record { number = 2; applies = not (every (eqb (length area) store_bytes ∷ leb least_mark (length out) ∷ [])) }
    ∷ record { number = 1; applies = not (is_some (store_of area)) }
    ∷ []

unfoldable pub mark_number : List ℕ → List ℕ → ℕ
mark_number area out = given (mark_conditions area out) 0

-- ── an arrival ──
-- refusal 8, of what a record reads as
abbrev pub bad_record : Schema → Mirror → Option Record → Bool
bad_record s m None = true
bad_record s m (Some (numbered u k e)) = bad s m k e
bad_record s m (Some (mark u k)) = false

abbrev pub run_in : Option Record → ℕ
run_in None = 0
run_in (Some (numbered u k e)) = u
run_in (Some (mark u k)) = u

-- of a mirror of a run and a schema
abbrev pub record_conditions : Schema → ℕ → Mirror → Option Record → List Condition
record_conditions s run m o =
    record { number = 8; applies = bad_record s m o }
    ∷ record { number = 9; applies = not (eqb (run_in o) run) }
    ∷ []

abbrev pub hear_conditions : List ℕ → List ℕ → List Condition
hear_conditions area x =
    let m = mirror_or (mirror_of area) in
    record { number = 2; applies = not (eqb (length area) mirror_bytes) }
    ∷ record { number = 1; applies = not (is_some (mirror_of area)) }
    ∷ record_conditions m.database.tables m.run m.mirror (decode x)

-- "It answers repeat to a record numbered n or less, behind to one above n+1, heard to a mark, and applied to record n+1": 100, 101, 102, 103
abbrev pub heard_as : ℕ → Option Record → ℕ
heard_as n None = 0
heard_as n (Some (mark u k)) = 102
heard_as n (Some (numbered u k e)) = if leb k n then 100 else if eqb k (suc n) then 103 else 101

unfoldable pub hear_number : List ℕ → List ℕ → ℕ
hear_number area x = given (hear_conditions area x) (heard_as (mirror_or (mirror_of area)).mirror.n (decode x))

-- ── a question; `fits` is whether the output has its length ──
abbrev pub ask_conditions : Bool → List ℕ → List Condition
ask_conditions fits area =
    record { number = 2; applies = not (eqb (length area) mirror_bytes && fits) }
    ∷ record { number = 1; applies = not (is_some (mirror_of area)) }
    ∷ []

unfoldable pub ask_number : List ℕ → ℕ
ask_number area = given (ask_conditions true area) 0

unfoldable pub column_number : List ℕ → List ℕ → ℕ
column_number area out = given (ask_conditions (eqb (length out) column_bytes) area) 0
