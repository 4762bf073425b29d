-- Document 01's starred readings as one table: from the bytes of schema, requests, fresh ids and records to what the calls on areas leave. Assumes nothing: these are definitions.
use Rattle.std.specs.Prelude.{ℕ, zero, suc, ◌+◌, ◌-◌, ◌*◌, ◌≡◌, Bool, true, false, List, [], ◌∷◌, ◌++◌, map, ltb, get_or, replicate}
use Prim.Native.String as Str
use Prim.Native.String.{String}
use Prim.Native.Char.{code}
use Rattle.model.specs.Octets.{big, filled}
use Rattle.model.specs.Limits.{store_bytes, mirror_bytes, least_records}
use Rattle.model.specs.Base.{ascii}
use Rattle.model.specs.Records.{pieces}
use Rattle.model.specs.Refusals.{number_of}
use Rattle.model.specs.Areas.{mirror_of}
use Rattle.model.specs.Calls.{store_start, mirror_start, Transacted, store_transact, mirror_progress}
use Rattle.model.specs.Histories.{heard_all}
use Rattle.model.specs.Laid.{mirror_or}

-- what the last call gave, its status's number and its buffers; and what a mirror that then heard some of its records tells, with the highest number heard
pub record Gave : Type 0 where
  pub status : ℕ
  pub text : List ℕ
  pub records : List ℕ
  pub n : ℕ
  pub highest : ℕ
  pub level : Bool

-- calls on a store of this schema; which of the last one's records, by their places from 0, a mirror hears, in that order
pub record Reading : Type 0 where
  pub schema : List ℕ
  pub requests : List (List ℕ)
  pub hears : List ℕ
  pub last : Gave

-- bytes of a text in hexadecimal
abbrev pub digit : ℕ → ℕ
digit c = elim (ltb c 58) [ true ↦ c - 48 | false ↦ c - 87 ]

abbrev pub hex : String → List ℕ
hex Str.[] = []
hex (Str.◌∷◌ a Str.[]) = []
hex (Str.◌∷◌ a (Str.◌∷◌ b s)) = (digit (code a) * 16 + digit (code b)) ∷ hex s

-- fresh ids: the 16 numbers from i on, so that the first call's first id ends in 1
abbrev pub ids_from : ℕ → ℕ → List ℕ
ids_from zero i = []
ids_from (suc k) i = big 16 i ++ ids_from k (suc i)

-- buffers of zeros, for records and for the answer
abbrev pub records_room : List ℕ
records_room = replicate least_records 0

abbrev pub text_room : List ℕ
text_room = replicate 1000 0

-- some calls, each on the area that the one before left; call k has the fresh ids from 16 k + 1 on
abbrev pub last_call : ℕ → Transacted → List (List ℕ) → Transacted
last_call i c [] = c
last_call i c (q ∷ qs) = last_call (i + 16) (store_transact c.area q (ids_from 16 i) records_room text_room) qs

-- of a store started in an area of zeros for run 1
abbrev pub calls_of : Reading → Transacted
calls_of r =
    let s = store_start (replicate store_bytes 0) r.schema 1 in
    last_call 1 (record { status = s.status; area = s.area; records = records_room; text = text_room }) r.requests

abbrev pub picks : List ℕ → List (List ℕ) → List (List ℕ)
picks [] l = []
picks (k ∷ ks) l = get_or l k [] ∷ picks ks l

-- a mirror of the same schema and run that hears those records
abbrev pub mirror_on : Reading → List ℕ → List ℕ
mirror_on r records = heard_all (mirror_start (replicate mirror_bytes 0) r.schema 1).area (picks r.hears (pieces records))

abbrev pub gave : Transacted → List ℕ → Gave
gave c shown =
    let p = mirror_progress shown in
    record { status = number_of c.status; text = c.text; records = c.records; n = p.n; highest = (mirror_or (mirror_of shown)).mirror.top; level = p.level }

abbrev pub got : Reading → Gave
got r = gave (calls_of r) (mirror_on r (calls_of r).records)

-- a buffer of n bytes with these at its front, and zeros after them
unfoldable pub padded : ℕ → List ℕ → List ℕ
padded n b = filled n b

-- a reading of the store alone: an accepted call's text and records, zeros after them, and a mirror that heard nothing
abbrev pub gives : List ℕ → List ℕ → Gave
gives text records = record { status = 0; text = padded 1000 text; records = padded least_records records; n = 0; highest = 0; level = false }

abbrev pub reading : List ℕ → List (List ℕ) → List ℕ → List ℕ → Reading
reading schema requests text records = record { schema = schema; requests = requests; hears = []; last = gives text records }

-- name "bath", root table Probe, string column name
abbrev pub bath : List ℕ
bath = ascii "{\"name\":\"bath\",\"version\":\"1.0.0\",\"tables\":{\"Probe\":{\"columns\":{\"name\":{\"type\":\"string\"}},\"isRoot\":true}}}"

abbrev pub first : List ℕ
first = ascii "[\"bath\",{\"op\":\"insert\",\"table\":\"Probe\",\"row\":{\"name\":\"pH-1\"}}]"

-- 163 bytes: born (1), column (2, atom 04 70 48 2D 31 and 20 zeros, then 75 zeros), end (3)
abbrev pub first_records : List ℕ
first_records =
    hex "01000000010000000100" ++ (big 16 1
    ++ (hex "03000000010000000200" ++ (big 16 1
    ++ (hex "0001" ++ (hex "0470482d31" ++ (replicate 20 0 ++ (replicate 75 0
    ++ hex "040000000100000003")))))))

-- the uuid's text of a small number below 256, given by its two last digits
abbrev pub uuid : String → List ℕ
uuid d = ascii "{\"uuid\":[\"uuid\",\"00000000-0000-0000-0000-0000000000" ++ (ascii d ++ ascii "\"]}")

abbrev pub first_text : List ℕ
first_text = ascii "[" ++ (uuid "01" ++ ascii "]")

-- a table of one integer, a table of a set of integers
abbrev pub number : List ℕ
number = ascii "{\"name\":\"d\",\"version\":\"1.0.0\",\"tables\":{\"T\":{\"columns\":{\"v\":{\"type\":\"integer\"}}}}}"

abbrev pub numbers : List ℕ
numbers = ascii "{\"name\":\"d\",\"version\":\"1.0.0\",\"tables\":{\"T\":{\"columns\":{\"v\":{\"type\":{\"key\":\"integer\",\"min\":0,\"max\":4}}}}}}"

abbrev pub insert : String → List ℕ
insert v = ascii "[\"d\",{\"op\":\"insert\",\"table\":\"T\",\"row\":{\"v\":" ++ (ascii v ++ ascii "}}]")

abbrev pub mutate : String → String → List ℕ
mutate m v = ascii "[\"d\",{\"op\":\"mutate\",\"table\":\"T\",\"where\":[],\"mutations\":[[\"v\",\"" ++ (ascii m ++ (ascii "\"," ++ (ascii v ++ ascii "]]}]")))

abbrev pub failing : String → List ℕ
failing e = ascii "[{\"error\":\"" ++ (ascii e ++ ascii "\"}]")

-- a value, what is done to it, and the error or the new integer (8 bytes in hexadecimal)
abbrev pub fails : List ℕ → String → String → String → String → Reading
fails s a m b e = reading s (insert a ∷ mutate m b ∷ []) (failing e) []

-- a table without columns and 32 rows in it
abbrev pub plain : List ℕ
plain = ascii "{\"name\":\"d\",\"version\":\"1.0.0\",\"tables\":{\"T\":{\"columns\":{}}}}"

abbrev pub inserts : ℕ → List ℕ
inserts zero = ascii "]"
inserts (suc k) = ascii ",{\"op\":\"insert\",\"table\":\"T\",\"row\":{}}" ++ inserts k

-- the row of the first call's first fresh id goes
abbrev pub delete_first_of : List ℕ
delete_first_of = ascii "{\"op\":\"delete\",\"table\":\"T\",\"where\":[[\"_uuid\",\"==\",[\"uuid\",\"00000000-0000-0000-0000-000000000001\"]]]}"

abbrev pub delete_first : List ℕ
delete_first = ascii "[\"d\"," ++ delete_first_of

abbrev pub many : ℕ → List ℕ
many k = ascii "[\"d\"" ++ inserts k

-- a root table, and one that is not root, whose rows refer strongly to its own
abbrev pub friends : List ℕ
friends =
    ascii "{\"name\":\"d\",\"version\":\"1.0.0\",\"tables\":{\"R\":{\"columns\":{},\"isRoot\":true},\"N\":{\"columns\":{\"f\":{\"type\":{\"key\":{\"type\":\"uuid\",\"refTable\":\"N\"},\"min\":0,\"max\":4}}}}}}"

abbrev pub friend : String → String → List ℕ
friend name other =
    ascii ",{\"op\":\"insert\",\"table\":\"N\",\"uuid-name\":\"" ++ (ascii name ++ (ascii "\",\"row\":{\"f\":[\"named-uuid\",\"" ++ (ascii other ++ ascii "\"]}}")))

-- records of run 1 by hand: kind, number, table and id
abbrev pub headed : ℕ → ℕ → ℕ → ℕ → List ℕ
headed kind n t i = kind ∷ big 4 1 ++ (big 4 n ++ (t ∷ big 16 i))

abbrev pub ended : ℕ → List ℕ
ended n = 4 ∷ big 4 1 ++ big 4 n

-- the first reading's records as a mirror hears them
abbrev pub hearing : List ℕ → ℕ → ℕ → Bool → Reading
hearing ks n top level =
    record { schema = bath; requests = first ∷ []; hears = ks; last = record { status = 0; text = padded 1000 first_text; records = padded least_records first_records; n = n; highest = top; level = level } }

abbrev pub table : List Reading
table =
    reading bath (first ∷ []) first_text first_records
    ∷ reading bath (ascii "[\"bath\"]" ∷ []) (ascii "[]") []
    -- 2^63-1 += 1, -2^63 / -1, 7 % 0
    ∷ fails number "9223372036854775807" "+=" "1" "range error"
    ∷ fails number "-9223372036854775808" "/=" "-1" "range error"
    ∷ fails number "7" "%=" "0" "domain error"
    -- -7 / 2: -3
    ∷ reading number (insert "-7" ∷ mutate "/=" "2" ∷ []) (ascii "[{\"count\":1}]") (headed 3 4 0 1 ++ (hex "0001" ++ (hex "fffffffffffffffd" ++ (replicate 92 0 ++ ended 5))))
    -- the set {1,2} *= 0
    ∷ fails numbers "[\"set\",[1,2]]" "*=" "0" "constraint violation"
    -- 32 rows, insert; delete one first: it succeeds
    ∷ reading plain (many 16 ∷ many 16 ∷ many 1 ∷ []) (failing "resources exhausted") []
    ∷ reading plain (many 16 ∷ many 16 ∷ (delete_first ++ inserts 1) ∷ []) (ascii "[{\"count\":1}," ++ (uuid "22" ++ ascii "]")) (headed 2 35 0 1 ++ (headed 1 36 0 34 ++ ended 37))
    -- two non-root rows that strongly refer to each other stay; one that refers only to itself goes
    ∷ reading friends ((ascii "[\"d\"" ++ (friend "a" "b" ++ (friend "b" "a" ++ ascii "]"))) ∷ [])
    (ascii "[" ++ (uuid "01" ++ (ascii "," ++ (uuid "02" ++ ascii "]"))))
    (headed 1 1 1 1 ++ (headed 3 2 1 1 ++ (hex "0001" ++ (big 16 2 ++ (replicate 84 0
    ++ (headed 1 3 1 2 ++ (headed 3 4 1 2 ++ (hex "0001" ++ (big 16 1 ++ (replicate 84 0 ++ ended 5))))))))))
    ∷ reading friends ((ascii "[\"d\"" ++ (friend "a" "a" ++ ascii "]")) ∷ []) (ascii "[" ++ (uuid "01" ++ ascii "]")) []
    -- a mirror hears 1, 3, 2: n is 2, highest 3, not level; 3 again: n is 3
    ∷ hearing (0 ∷ 2 ∷ 1 ∷ []) 2 3 false
    ∷ hearing (0 ∷ 2 ∷ 1 ∷ 2 ∷ []) 3 3 true
    ∷ []

-- the one claim over it
abbrev pub Readings : Type 0
Readings = map got table ≡ map (λ (r : Reading). r.last) table

-- ── the mistakes that document 01 lists: what they would get wrong, as far as the readings above do not say it ──
-- a table of at most one row: the limit is judged at the commit, so that a row may come before another goes
abbrev pub single : List ℕ
single = ascii "{\"name\":\"d\",\"version\":\"1.0.0\",\"tables\":{\"T\":{\"columns\":{},\"maxRows\":1}}}"

-- an index over a column of weak references, which are equal once those to absent rows are removed
abbrev pub indexed : List ℕ
indexed =
    ascii "{\"name\":\"d\",\"version\":\"1.0.0\",\"tables\":{\"T\":{\"columns\":{\"w\":{\"type\":{\"key\":{\"type\":\"uuid\",\"refTable\":\"T\",\"refType\":\"weak\"},\"min\":0,\"max\":1}}},\"indexes\":[[\"w\"]]}}}"

abbrev pub weak_to : String → List ℕ
weak_to d = ascii ",{\"op\":\"insert\",\"table\":\"T\",\"row\":{\"w\":[\"uuid\",\"00000000-0000-0000-0000-0000000000" ++ (ascii d ++ ascii "\"]}}")

-- two rows, and the failure of their commit
abbrev pub two_failing : List ℕ
two_failing = ascii "[" ++ (uuid "01" ++ (ascii "," ++ (uuid "02" ++ ascii ",{\"error\":\"constraint violation\"}]")))

abbrev pub mistakes : List Reading
mistakes =
    reading single (many 1 ∷ (ascii "[\"d\",{\"op\":\"insert\",\"table\":\"T\",\"row\":{}}," ++ (delete_first_of ++ ascii "]")) ∷ [])
    (ascii "[" ++ (uuid "11" ++ ascii ",{\"count\":1}]")) (headed 2 3 0 1 ++ (headed 1 4 0 17 ++ ended 5))
    ∷ reading single (many 2 ∷ []) two_failing []
    ∷ reading indexed ((ascii "[\"d\"" ++ (weak_to "aa" ++ (weak_to "bb" ++ ascii "]"))) ∷ []) two_failing []
    ∷ []

abbrev pub Mistakes : Type 0
Mistakes = map got mistakes ≡ map (λ (r : Reading). r.last) mistakes
