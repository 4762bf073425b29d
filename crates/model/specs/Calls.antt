-- The public calls, from all that a call is given to all that it leaves: its status, and every area and buffer. Assumes nothing: these are definitions.
-- "Refusals are checked in this order": 2, 1, 3, 4, 5, 6, 7, 10, 8, 9. "Each leaves store and mirror areas as they were and zeroes every other buffer written to.
-- In an accepted call, bytes beyond what was written are zero."
use Rattle.std.specs.Prelude.{ℕ, ◌+◌, Bool, true, false, List, [], ◌∷◌, map, eqb, leb, length, replicate, Option, Some, None}
use Rattle.model.specs.Octets.{value, filled}
use Rattle.model.specs.Limits.{store_bytes, mirror_bytes, fresh_bytes, least_records, least_answer, least_mark}
use Rattle.model.specs.Base.{every, flat}
use Rattle.model.specs.Schema.{Database}
use Rattle.model.specs.SchemaText.{read_schema}
use Rattle.model.specs.Refusals.{is_refusal}
use Rattle.model.specs.Replies.{Reply, reply}
use Rattle.model.specs.Records.{mark, number_from, encode}
use Rattle.model.specs.Mirror.{Mirror, fresh, level, Step, step, has_row, column_answer, column_bytes}
use Rattle.model.specs.Areas.{Store, encode_store, store_of, MirrorState, encode_mirror, mirror_of}
use Rattle.model.specs.declared.Status.{Status}
use Rattle.model.specs.declared.Status.TheVariants.{Accepted, Disordered, WrongLength, BadSchema}

-- a buffer of as many bytes, all zero
abbrev pub zeroed : List ℕ → List ℕ
zeroed b = replicate (length b) 0

-- ── starting: "takes the schema text and a run number, never gets refusal 1, and makes no rows and number 0" ──
pub record Started : Type 0 where
  pub status : Status
  pub area : List ℕ

abbrev pub start_as : ℕ → List ℕ → List ℕ → (Database → List ℕ) → Started
start_as bytes area schema made =
    elim (eqb (length area) bytes) [
      | true ↦ elim (read_schema schema) [ None ↦ record { status = BadSchema; area = area } | Some d ↦ record { status = Accepted; area = made d } ]
      | false ↦ record { status = WrongLength; area = area }
    ]

-- "makes no rows and number 0"
abbrev pub new_store : ℕ → Database → Store
new_store run d = record { run = run; number = 0; database = d; rows = [] }

abbrev pub new_mirror : ℕ → Database → MirrorState
new_mirror run d = record { run = run; database = d; mirror = fresh }

unfoldable pub store_start : List ℕ → List ℕ → ℕ → Started
store_start area schema run = start_as store_bytes area schema (λ (d : Database). encode_store (new_store run d))

unfoldable pub mirror_start : List ℕ → List ℕ → ℕ → Started
mirror_start area schema run = start_as mirror_bytes area schema (λ (d : Database). encode_mirror (new_mirror run d))

-- ── transact ──
pub record Transacted : Type 0 where
  pub status : Status
  pub area : List ℕ
  pub records : List ℕ
  pub text : List ℕ

-- refusal 2: "store or mirror area not the fixed size, fresh ids not 256 bytes, records under 26,249 bytes, answer under 64"
abbrev pub lengths_good : List ℕ → List ℕ → List ℕ → List ℕ → Bool
lengths_good area fresh records text =
    every (eqb (length area) store_bytes ∷ eqb (length fresh) fresh_bytes ∷ leb least_records (length records) ∷ leb least_answer (length text) ∷ [])

abbrev pub transact_refused : Status → List ℕ → List ℕ → List ℕ → Transacted
transact_refused a area records text = record { status = a; area = area; records = zeroed records; text = zeroed text }

-- the store after a reply: its rows, and its number moved by the changes
abbrev pub store_after : Store → Reply → Store
store_after st r = record { run = st.run; number = st.number + length r.changes; database = st.database; rows = r.rows }

-- the bytes of its records: "Numbers run on from 1"
abbrev pub records_after : Store → Reply → List ℕ
records_after st r = flat (map encode (number_from st.run st.number r.changes))

abbrev pub transact_replied : List ℕ → List ℕ → List ℕ → Store → Reply → Transacted
transact_replied area records text st r =
    elim (is_refusal r.status) [
      | true ↦ transact_refused r.status area records text
      | false ↦
          record {
            status = r.status;
            area = encode_store (store_after st r);
            records = filled (length records) (records_after st r);
            text = filled (length text) r.text;
          }
    ]

abbrev pub reply_of : Store → List ℕ → List ℕ → ℕ → Reply
reply_of st request fresh room = reply st.database st.number st.rows request fresh room

abbrev pub transact_on : List ℕ → List ℕ → List ℕ → List ℕ → List ℕ → Option Store → Transacted
transact_on area request fresh records text None = transact_refused Disordered area records text
transact_on area request fresh records text (Some st) = transact_replied area records text st (reply_of st request fresh (length text))

unfoldable pub store_transact : List ℕ → List ℕ → List ℕ → List ℕ → List ℕ → Transacted
store_transact area request fresh records text =
    elim (lengths_good area fresh records text) [
      | true ↦ transact_on area request fresh records text (store_of area)
      | false ↦ transact_refused WrongLength area records text
    ]

-- ── "A mark has no number of its own and is asked for between calls": run and the last number given out ──
pub record Marked : Type 0 where
  pub status : Status
  pub mark : List ℕ

abbrev pub mark_on : List ℕ → Option Store → Marked
mark_on out None = record { status = Disordered; mark = zeroed out }
mark_on out (Some st) = record { status = Accepted; mark = filled (length out) (encode (mark st.run st.number)) }

unfoldable pub store_mark : List ℕ → List ℕ → Marked
store_mark area out =
    elim (every (eqb (length area) store_bytes ∷ leb least_mark (length out) ∷ [])) [
      | true ↦ mark_on out (store_of area)
      | false ↦ record { status = WrongLength; mark = zeroed out }
    ]

-- ── an arrival: "What a mirror doesn't refuse it has heard" ──
pub record Arrived : Type 0 where
  pub status : Status
  pub area : List ℕ

abbrev pub mirror_after : MirrorState → Mirror → MirrorState
mirror_after m next = record { run = m.run; database = m.database; mirror = next }

abbrev pub hear_step : List ℕ → MirrorState → Step → Arrived
hear_step area m x =
    elim (is_refusal x.status) [
      | true ↦ record { status = x.status; area = area }
      | false ↦ record { status = x.status; area = encode_mirror (mirror_after m x.next) }
    ]

abbrev pub hear_on : List ℕ → List ℕ → Option MirrorState → Arrived
hear_on area x None = record { status = Disordered; area = area }
hear_on area x (Some m) = hear_step area m (step m.database.tables m.run m.mirror x)

unfoldable pub mirror_hear : List ℕ → List ℕ → Arrived
mirror_hear area x = elim (eqb (length area) mirror_bytes) [ true ↦ hear_on area x (mirror_of area) | false ↦ record { status = WrongLength; area = area } ]

-- ── questions: "Asked between arrivals, it tells n, whether it is level, by table and id whether the row is there, and by table, id and column the count and atoms" ──
-- a question is answered by a mirror in good order, and refused else
abbrev pub asked : {A : Type 0} → List ℕ → (Status → A) → (Mirror → A) → A
asked area refuse ask = elim (eqb (length area) mirror_bytes) [ true ↦ elim (mirror_of area) [ None ↦ refuse Disordered | Some m ↦ ask m.mirror ] | false ↦ refuse WrongLength ]

pub record Progress : Type 0 where
  pub status : Status
  pub n : ℕ
  pub level : Bool

abbrev pub no_progress : Status → Progress
no_progress a = record { status = a; n = 0; level = false }

abbrev pub progress_of : Mirror → Progress
progress_of m = record { status = Accepted; n = m.n; level = level m }

unfoldable pub mirror_progress : List ℕ → Progress
mirror_progress area = asked area no_progress progress_of

pub record Presence : Type 0 where
  pub status : Status
  pub there : Bool

abbrev pub no_presence : Status → Presence
no_presence a = record { status = a; there = false }

-- an id is its 16 bytes read as a number
abbrev pub presence_of : ℕ → List ℕ → Mirror → Presence
presence_of t id m = record { status = Accepted; there = has_row m t (value id) }

unfoldable pub mirror_has_row : List ℕ → ℕ → List ℕ → Presence
mirror_has_row area t id = asked area no_presence (presence_of t id)

pub record Contents : Type 0 where
  pub status : Status
  pub out : List ℕ

abbrev pub no_contents : List ℕ → Status → Contents
no_contents out a = record { status = a; out = zeroed out }

abbrev pub contents_of : ℕ → List ℕ → ℕ → Mirror → Contents
contents_of t id c m = record { status = Accepted; out = column_answer m t (value id) c }

-- "An output of the wrong length gets 2" (reading 48)
unfoldable pub mirror_column : List ℕ → ℕ → List ℕ → ℕ → List ℕ → Contents
mirror_column area t id c out =
    elim (eqb (length out) column_bytes) [
      | true ↦ asked area (no_contents out) (contents_of t id c)
      | false ↦ no_contents out WrongLength
    ]
