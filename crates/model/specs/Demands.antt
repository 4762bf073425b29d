-- The three demands, as statements about the calls, from the bytes of a call to the bytes it leaves. Assumes nothing: these are definitions.
use Rattle.std.specs.Prelude.{ℕ, suc, ◌-◌, ◌^◌, ◌≤◌, ◌<◌, ◌≡◌, ◌↔◌, Bool, true, false, not, ◌&&◌, ◌||◌, eqb, length, get_or, take, replicate, Option, Some}
use mathlib.Core.List.{List, [], ◌∷◌, ◌++◌, map, Memᴰ}
use Rattle.model.specs.Octets.{value}
use Rattle.model.specs.Base.{all}
use Rattle.model.specs.Schema.{Schema, Database}
use Rattle.model.specs.SchemaText.{read_schema}
use Rattle.model.specs.Rows.{Row, key_of, has}
use Rattle.model.specs.Refusals.{number_of, is_refusal}
use Rattle.model.specs.Records.{Record, mark, number_from, encode, decode}
use Rattle.model.specs.Mirror.{Mirror, hears, applies, highest, something, number_carried, column_bytes, column_answer}
use Rattle.model.specs.Areas.{Store, encode_store, store_of, encode_mirror, mirror_of}
use Rattle.model.specs.Calls.{zeroed, new_store, new_mirror, store_start, mirror_start, Transacted, store_transact, store_mark, mirror_hear, mirror_progress, mirror_has_row, mirror_column}
use Rattle.model.specs.Laid.{store_or, mirror_or, succeeds, records_laid, text_laid, store_laid}
use Rattle.model.specs.FirstRefusal.{store_start_number, mirror_start_number, transact_number, mark_number, record_conditions, heard_as, given, hear_number, ask_number, column_number}
use Rattle.model.specs.Histories.{StoreCall, are_bytes, of_bytes, area_after_all, records_of, sent_of, change_of, change_in, made, ends_commit, heard_all, Arrivals, heard_numbers}
use Rattle.model.specs.declared.Status.{Status}
use Rattle.model.specs.declared.Status.TheVariants.{Accepted, Applied}

-- ── demand 1: "Whatever bytes come as schema, request, record or stored area, a call ends with its answer or with the first of document 01's refusals that applies, exactly when it applies" ──
-- a buffer that a call writes to: as it was lent, what is to be written to it, and as it was left
pub record Buffer : Type 0 where
  pub lent : List ℕ
  pub written : List ℕ
  pub left : List ℕ

-- "every output buffer zero"
abbrev pub AllZero : List Buffer → Type 0
AllZero [] = Unit
AllZero (b ∷ bs) = (b.left ≡ zeroed b.lent) × AllZero bs

-- "In an accepted call, bytes beyond what was written are zero"
abbrev pub ZeroBeyond : List Buffer → Type 0
ZeroBeyond [] = Unit
ZeroBeyond (b ∷ bs) = (length b.written ≤ length b.lent) × (b.left ≡ b.written ++ replicate (length b.lent - length b.written) 0) × ZeroBeyond bs

-- of a call that is to get a number: its status, the area before and after it, and every other buffer it writes to
pub record Ends (number : ℕ) (status : Status) (area after : List ℕ) (buffers : List Buffer) : Type 0 where
  pub first : number_of status ≡ number
  -- "A refused call leaves store and mirror untouched and every output buffer zero"
  pub refused : is_refusal status ≡ true → (after ≡ area) × AllZero buffers
  pub accepted : is_refusal status ≡ false → ZeroBeyond buffers

-- the eight calls
abbrev pub StoreStartEnds : List ℕ → List ℕ → ℕ → Type 0
StoreStartEnds area schema run =
    let c = store_start area schema run in
    Ends (store_start_number area schema) c.status area c.area []
    -- "makes no rows and number 0"
    × (is_refusal c.status ≡ false → (d : Database) × (read_schema schema ≡ Some d) × (c.area ≡ encode_store (new_store run d)))

abbrev pub MirrorStartEnds : List ℕ → List ℕ → ℕ → Type 0
MirrorStartEnds area schema run =
    let c = mirror_start area schema run in
    Ends (mirror_start_number area schema) c.status area c.area []
    × (is_refusal c.status ≡ false → (d : Database) × (read_schema schema ≡ Some d) × (c.area ≡ encode_mirror (new_mirror run d)))

abbrev pub TransactEnds : List ℕ → List ℕ → List ℕ → List ℕ → List ℕ → Type 0
TransactEnds area request fresh records text =
    let c = store_transact area request fresh records text in
    Ends (transact_number area request fresh records text) c.status area c.area
    (record { lent = records; written = records_laid area request fresh; left = c.records } ∷ record { lent = text; written = text_laid area request fresh; left = c.text } ∷ [])

-- the area of a mark or a question is lent to be read only
abbrev pub MarkEnds : List ℕ → List ℕ → Type 0
MarkEnds area out =
    let c = store_mark area out in
    let st = store_or (store_of area) in
    Ends (mark_number area out) c.status area area (record { lent = out; written = encode (mark st.run st.number); left = c.mark } ∷ [])

abbrev pub HearEnds : List ℕ → List ℕ → Type 0
HearEnds area x = let c = mirror_hear area x in Ends (hear_number area x) c.status area c.area []

-- a refused question tells nothing
abbrev pub ProgressEnds : List ℕ → Type 0
ProgressEnds area =
    let c = mirror_progress area in
    Ends (ask_number area) c.status area area [] × (is_refusal c.status ≡ true → (c.n ≡ 0) × (c.level ≡ false))

abbrev pub HasRowEnds : List ℕ → ℕ → List ℕ → Type 0
HasRowEnds area t id =
    let c = mirror_has_row area t id in
    Ends (ask_number area) c.status area area [] × (is_refusal c.status ≡ true → c.there ≡ false)

abbrev pub ColumnEnds : List ℕ → ℕ → List ℕ → ℕ → List ℕ → Type 0
ColumnEnds area t id column out =
    let c = mirror_column area t id column out in
    Ends (column_number area out) c.status area area (record { lent = out; written = column_answer (mirror_or (mirror_of area)).mirror t (value id) column; left = c.out } ∷ [])

-- for all bytes; that they are below 256 is asked only where something rests on it
pub record Demand1 : Type 0 where
  pub store_starts : (area schema : List ℕ) (run : ℕ) → StoreStartEnds area schema run
  pub transacts : (area request fresh records text : List ℕ) → are_bytes fresh ≡ true → TransactEnds area request fresh records text
  pub marks : (area out : List ℕ) → MarkEnds area out
  pub mirror_starts : (area schema : List ℕ) (run : ℕ) → MirrorStartEnds area schema run
  pub arrivals : (area x : List ℕ) → HearEnds area x
  pub tells_progress : (area : List ℕ) → ProgressEnds area
  pub tells_row : (area : List ℕ) (t : ℕ) (id : List ℕ) → HasRowEnds area t id
  pub tells_column : (area : List ℕ) (t : ℕ) (id : List ℕ) (column : ℕ) (out : List ℕ) → ColumnEnds area t id column out

-- ── demand 2, of a transact on any bytes; good order is not assumed ──
module _ (area request fresh records text : List ℕ) where
  abbrev pub call : Transacted
  call = store_transact area request fresh records text

  -- "One commits exactly when every operation succeeds and at the end strong references, weak columns that may not be empty, indexes and row limits hold, and it isn't refused"
  abbrev pub commits : Bool
  commits = not (is_refusal call.status) && succeeds area request fresh

  pub record Transacts : Type 0 where
    -- "Answer, rows and records are then the ones laid down, byte for byte": the area is the encoding of the settled rows and of the number moved by the records
    pub committed : commits ≡ true
        → (call.area ≡ encode_store (store_laid area request fresh))
        × (call.records ≡ records_laid area request fresh ++ replicate (length records - length (records_laid area request fresh)) 0)
    -- "Otherwise rows and number stay and no record is written"
    pub stays : commits ≡ false → (call.area ≡ area) × (call.records ≡ zeroed records)
    -- the answer, of a commit or of what failed
    pub answered : is_refusal call.status ≡ false → call.text ≡ text_laid area request fresh ++ replicate (length text - length (text_laid area request fresh)) 0
    -- rows change exactly when records are written
    pub both : ((store_or (store_of call.area)).rows ≡ (store_or (store_of area)).rows) ↔ (call.records ≡ zeroed records)

abbrev pub Demand2 : Type 0
Demand2 = (area request fresh records text : List ℕ) → are_bytes fresh ≡ true → Transacts area request fresh records text

-- ── demand 3: one claim about a whole history and a whole list of arrivals ──
-- what an arrival leaves, by its status's number: "applied to record n+1, which acts on the rows and moves n by one" (103), "behind to one above n+1 (only the highest heard
-- changes), heard to a mark (rows and n stay)" (101, 102), "repeat to a record numbered n or less (nothing changes)" (100), and nothing changes either where it is refused
abbrev pub left_by : Schema → ℕ → Mirror → Option Record → Mirror
left_by s status m x = elim (eqb status 103) [ true ↦ applies s m (change_of x) | false ↦ elim (eqb status 101 || eqb status 102) [ true ↦ hears m (number_carried x) | false ↦ m ] ]

-- `area` is the area of a store that was started with a schema's text that is read as this database, and with this run
module _ (d : Database) (run : ℕ) (area : List ℕ) (calls : List StoreCall) where
  -- "its rows are what records 1 to n make"
  abbrev pub rows_at : ℕ → List Row
  rows_at n = made d.tables (take n (records_of area calls))

  -- a mirror at number n that heard these numbers: "the highest heard is the largest number carried by these, 0 if none"
  abbrev pub mirror_at : ℕ → List ℕ → Mirror
  mirror_at n heard = record { rows = rows_at n; n = n; top = highest heard; heard = something heard; whole = ends_commit (records_of area calls) n }

  abbrev pub area_of : Mirror → List ℕ
  area_of m = encode_mirror (record { run = run; database = d; mirror = m })

  -- of a mirror's area after arrivals by which it heard these numbers
  pub record Follows (shown : List ℕ) (heard : List ℕ) : Type 0 where
    pub n : ℕ
    pub within : n ≤ length (records_of area calls)
    -- its bytes are these, in good order: its rows are what records 1 to n make
    pub bytes : shown ≡ area_of (mirror_at n heard)
    pub state : mirror_of shown ≡ Some (record { run = run; database = d; mirror = mirror_at n heard })
    -- it names n, and says "level" exactly when it has heard something, n is the highest number heard, and n is 0 or ends a commit
    pub tells : mirror_progress shown ≡ record { status = Accepted; n = n; level = something heard && eqb n (highest heard) && ends_commit (records_of area calls) n }
    -- what it tells of rows and columns is told of those rows
    pub tells_row : (t : ℕ) (id : List ℕ) → mirror_has_row shown t id ≡ record { status = Accepted; there = has (key_of t (value id)) (rows_at n) }
    pub tells_column : (t : ℕ) (id : List ℕ) (c : ℕ) (out : List ℕ) → length out ≡ column_bytes → mirror_column shown t id c out ≡ record { status = Accepted; out = column_answer (mirror_at n heard) t (value id) c }
    -- whatever comes next: its status by its conditions, and what that leaves
    pub answers : (x : List ℕ) → number_of (mirror_hear shown x).status ≡ given (record_conditions d.tables run (mirror_at n heard) (decode x)) (heard_as n (decode x))
    pub leaves : (x : List ℕ) → (mirror_hear shown x).area ≡ area_of (left_by d.tables (number_of (mirror_hear shown x).status) (mirror_at n heard) (decode x))
    -- record n+1, when it comes, moves n by one
    pub moved : n < length (records_of area calls) → (mirror_hear shown (get_or (records_of area calls) n [])).status ≡ Applied
    pub moves : n < length (records_of area calls) → (mirror_progress (mirror_hear shown (get_or (records_of area calls) n [])).area).n ≡ suc n
    -- "the mirror refuses none of them"
    pub refuses_none : (x : List ℕ) → Memᴰ x (sent_of area calls) → is_refusal (mirror_hear shown x).status ≡ false
    -- and where it is level its rows are the store's after that commit: after each call that left the store at number n, and there is one
    pub store : (mirror_progress shown).level ≡ true → (j : ℕ) (st : Store) → store_of (area_after_all area (take j calls)) ≡ Some st → st.number ≡ n → rows_at n ≡ st.rows
    pub commit : (mirror_progress shown).level ≡ true → (j : ℕ) × (st : Store) × (j ≤ length calls) × (store_of (area_after_all area (take j calls)) ≡ Some st) × (st.number ≡ n)

  -- of the history itself: a started store is never out of good order; "Numbers run on from 1": record k carries the number k and the run, and is one laid down
  pub record Keeps : Type 0 where
    pub in_order : (j : ℕ) → (st : Store) × (store_of (area_after_all area (take j calls)) ≡ Some st) × (st.run ≡ run) × (st.database ≡ d) × (st.number ≡ length (records_of area (take j calls)))
    pub laid : records_of area calls ≡ map encode (number_from run 0 (map change_in (records_of area calls)))

-- for every run, two texts of a schema that are read as the same database, one given to a store and one to a mirror, and two areas that can be started, whatever they held; every
-- history; every list of arrivals, at the start and after each
abbrev pub Demand3 : Type 0
Demand3 = (schema shown : List ℕ) (d : Database) (run : ℕ) (old oldShown : List ℕ) → run < 256 ^ 4 → read_schema schema ≡ Some d → read_schema shown ≡ Some d
    → (store_start old schema run).status ≡ Accepted → (mirror_start oldShown shown run).status ≡ Accepted
    → (calls : List StoreCall) → all of_bytes calls ≡ true
    → Keeps d run (store_start old schema run).area calls
    × ((xs : List (List ℕ)) → Arrivals (sent_of (store_start old schema run).area calls) (mirror_start oldShown shown run).area xs
    → (i : ℕ) → Follows d run (store_start old schema run).area calls
    (heard_all (mirror_start oldShown shown run).area (take i xs)) (heard_numbers (mirror_start oldShown shown run).area (take i xs)))
