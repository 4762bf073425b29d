-- Change records and marks: what a commit writes, what each does to rows, and their bytes (document 01, "Records on the line"). Assumes nothing: these are definitions.
use Rattle.std.specs.Prelude.{ℕ, zero, suc, ◌^◌, Bool, true, false, not, ◌&&◌, List, [], ◌∷◌, ◌++◌, eqb, ltb, length, get_or, take, drop, if◌then◌else◌, Option, Some, None}
use Rattle.model.specs.Octets.{big, value, part, chunks}
use Rattle.model.specs.Limits.{most_rows, most_elements, atom_bytes, row_record_bytes, column_record_bytes, end_bytes}
use Rattle.model.specs.Base.{flat}
use Rattle.model.specs.Schema.{Column, Schema, columns_of}
use Rattle.model.specs.Value.{Value, same_value, canonical_for}
use Rattle.model.specs.Rows.{Row, key_of, key, find, has, has_id, add, remove, change, initials}

-- what a numbered record says: "born adds its row .., gone takes that row away, column sets its count and atoms, end changes nothing"
pub data Change : Type 0 where
  born gone : (table id : ℕ) → Change
  column : (table id col : ℕ) → Value → Change
  end : Change

-- "born adds its row with the insert defaults, gone takes that row away, column sets its count and atoms, end changes nothing"
abbrev pub act : Schema → Change → List Row → List Row
act s (born t i) rows = add (record { table = t; id = i; columns = initials s t }) rows
act s (gone t i) rows = remove (key_of t i) rows
act s (column t i c v) rows = change (key_of t i) c v rows
act s end rows = rows

-- "In order of number"
abbrev pub acts : Schema → List Change → List Row → List Row
acts s [] rows = rows
acts s (e ∷ es) rows = acts s es (act s e rows)

-- refusal 8, "fit the rows (born where any table has the id or rows are full, gone or column where that table lacks it)" does not
abbrev pub fits : Change → List Row → Bool
fits (born t i) rows = not (has_id i rows) && ltb (length rows) most_rows
fits (gone t i) rows = has (key_of t i) rows
fits (column t i c v) rows = has (key_of t i) rows
fits end rows = true

-- refusal 8, "an all-zero id, a table .. the schema lacks": the opposite, of an id of 16 bytes
abbrev pub known : Schema → ℕ → ℕ → Bool
known s t i = ltb t (length s) && not (eqb i 0) && ltb i (256 ^ 16)

-- refusal 8, "a .. column the schema lacks, a value that isn't in canonical form for its type": the opposite
abbrev pub allows : List Column → ℕ → Value → Bool
allows [] c v = false
allows (x ∷ xs) zero v = canonical_for x v
allows (x ∷ xs) (suc c) v = allows xs c v

-- what a record must be, whatever the rows are
abbrev pub sound : Schema → Change → Bool
sound s (born t i) = known s t i
sound s (gone t i) = known s t i
sound s (column t i c v) = known s t i && allows (columns_of s t) c v
sound s end = true

-- ── what a commit writes ──
-- "all gone rows (table order, ids ascending)"
abbrev pub gones : List Row → List Row → List Change
gones after [] = []
gones after (r ∷ rs) = if has (key r) after then gones after rs else gone r.table r.id ∷ gones after rs

-- a row's columns in schema order, those left out that `skip` says of the value before and the value after
abbrev pub writes : (Value → Value → Bool) → ℕ → ℕ → ℕ → List Value → List Value → List Change
writes skip t i c [] [] = []
writes skip t i c [] (w ∷ ws) = []
writes skip t i c (v ∷ vs) [] = []
writes skip t i c (v ∷ vs) (w ∷ ws) =
    if skip v w then writes skip t i (suc c) vs ws else column t i c w ∷ writes skip t i (suc c) vs ws

abbrev pub never : Value → Value → Bool
never v w = false

-- "each new row as born and all its columns, each changed row as its changed columns (.. columns in schema order; changed: unlike before the call)"
abbrev pub row_writes : Schema → Option Row → Row → List Change
row_writes s None r = born r.table r.id ∷ writes never r.table r.id 0 (initials s r.table) r.columns
row_writes s (Some p) r = writes same_value r.table r.id 0 p.columns r.columns

-- "then, in that order, .. (one walk ..)"
abbrev pub walk : Schema → List Row → List Row → List Change
walk s before [] = []
walk s before (r ∷ rs) = row_writes s (find (key r) before) r ++ walk s before rs

-- "then end"; "A commit that changed nothing writes nothing"
abbrev pub closed : List Change → List Change
closed [] = []
closed (e ∷ es) = (e ∷ es) ++ end ∷ []

-- "A commit that changed something writes: all gone rows ..; then .. each new row ..; then end"
abbrev pub diff : Schema → List Row → List Row → List Change
diff s before after = closed (gones after before ++ walk s before after)

-- "Number n ends a commit where record n is its end"
abbrev pub is_end : Change → Bool
is_end (born t i) = false
is_end (gone t i) = false
is_end (column t i c v) = false
is_end end = true

-- ── numbers and marks ──
pub data Record : Type 0 where
  numbered : (run number : ℕ) → Change → Record
  mark : (run last : ℕ) → Record

-- "Numbers run on from 1": the changes of a commit, where k numbers were given out before it
abbrev pub number_from : ℕ → ℕ → List Change → List Record
number_from run k [] = []
number_from run k (e ∷ es) = numbered run (suc k) e ∷ number_from run (suc k) es

-- ── bytes: "one byte of kind, then a body whose length the kind fixes; numbers most significant byte first" ──
-- the table "Kind", first column
abbrev pub born_kind : ℕ
born_kind = 1

abbrev pub gone_kind : ℕ
gone_kind = 2

abbrev pub column_kind : ℕ
column_kind = 3

abbrev pub end_kind : ℕ
end_kind = 4

abbrev pub mark_kind : ℕ
mark_kind = 5

-- the table "Kind", last column; 0 for a byte that is no kind
abbrev pub record_bytes : ℕ → ℕ
record_bytes k =
    if eqb k born_kind then row_record_bytes else if eqb k gone_kind then row_record_bytes else if eqb k column_kind then column_record_bytes else if eqb k end_kind then end_bytes else if eqb k mark_kind then end_bytes else 0

-- "column 1, count 1, four atoms of 25": the last two of them
abbrev pub value_bytes : Value → List ℕ
value_bytes v = v.count ∷ flat v.atoms

-- the table "Kind", second column
abbrev pub encode : Record → List ℕ
encode (numbered u n (born t i)) = born_kind ∷ big 4 u ++ (big 4 n ++ t ∷ big 16 i)
encode (numbered u n (gone t i)) = gone_kind ∷ big 4 u ++ (big 4 n ++ t ∷ big 16 i)
encode (numbered u n (column t i c v)) = column_kind ∷ big 4 u ++ (big 4 n ++ t ∷ big 16 i ++ c ∷ value_bytes v)
encode (numbered u n end) = end_kind ∷ big 4 u ++ big 4 n
encode (mark u n) = mark_kind ∷ big 4 u ++ big 4 n

-- n atoms, one after another
abbrev pub cut : ℕ → List ℕ → List (List ℕ)
cut n b = chunks atom_bytes n b

abbrev pub value_from : List ℕ → Value
value_from b = record { count = get_or b 0 0; atoms = cut most_elements (drop 1 b) }

-- the record of a kind and a body that has the kind's length
abbrev pub body_of : ℕ → List ℕ → Option Record
body_of k b =
    let u = value (part 0 4 b) in
    let n = value (part 4 4 b) in
    let t = get_or b 8 0 in
    let i = value (part 9 16 b) in
    if eqb k born_kind then Some (numbered u n (born t i))
    else if eqb k gone_kind then Some (numbered u n (gone t i))
    else if eqb k column_kind then Some (numbered u n (column t i (get_or b 25 0) (value_from (drop 26 b))))
    else if eqb k end_kind then Some (numbered u n end)
    else if eqb k mark_kind then Some (mark u n)
    else None

-- refusal 8, "an unknown kind, the wrong length": none
abbrev pub decode : List ℕ → Option Record
decode [] = None
decode (k ∷ b) = if eqb (suc (length b)) (record_bytes k) then body_of k b else None

-- ── a buffer of records, cut into the records it holds: up to the first byte that is no kind ("bytes beyond what was written are zero"), or its end ──
abbrev pub pieces_from : ℕ → List ℕ → List (List ℕ)
pieces_from zero b = []
pieces_from (suc fuel) [] = []
pieces_from (suc fuel) (k ∷ b) =
    elim (eqb (record_bytes k) 0) [
      | true ↦ []
      | false ↦ take (record_bytes k) (k ∷ b) ∷ pieces_from fuel (drop (record_bytes k) (k ∷ b))
    ]

abbrev pub pieces : List ℕ → List (List ℕ)
pieces b = pieces_from (length b) b
