-- What bytes are read as, and what of it a schema has to list (document 01, refusal 8). Assumes nothing: these are definitions.
use Rattle.std.specs.Prelude.{ℕ, ◌+◌, ◌^◌, ◌≡◌, Bool, true, false, not, ◌&&◌, List, map, eqb, ltb, length, get_or, drop, Option, Some, None}
use Rattle.model.specs.Limits.{most_elements, id_bytes, end_bytes, row_record_bytes}
use Rattle.model.specs.Octets.{part}
use Rattle.model.specs.Schema.{Table, Schema, columns_of}
use Rattle.model.specs.Records.{Change, born, gone, column, end, Record, numbered, mark, record_bytes, born_kind, gone_kind, column_kind, end_kind, mark_kind, cut, decode, allows}
use Rattle.record.specs.Kinds.{born_record, gone_record, column_record, end_record, mark_record}
use Rattle.record.specs.declared.Arrival.{Arrival}
use Rattle.record.specs.declared.Arrival.TheVariants.{Born, Gone, Column, End, Mark, Bad}

-- where a record's id lies, behind its table, and its atoms, behind its column and count
abbrev pub id_at : ℕ
id_at = end_bytes + 1

abbrev pub atoms_at : ℕ
atoms_at = row_record_bytes + 2

-- a record's id and atoms, by their places in its bytes
abbrev pub id_in : List ℕ → List ℕ
id_in bytes = part id_at id_bytes bytes

abbrev pub atoms_in : List ℕ → List (List ℕ)
atoms_in bytes = cut most_elements (drop atoms_at bytes)

-- the record that an answer of the reader and the bytes are; none for "an unknown kind, the wrong length"
unfoldable pub arrival_record : Arrival → List ℕ → Option Record
arrival_record (Born r) bytes = Some (born_record r (id_in bytes))
arrival_record (Gone r) bytes = Some (gone_record r (id_in bytes))
arrival_record (Column r) bytes = Some (column_record r (id_in bytes) (atoms_in bytes))
arrival_record (End r) bytes = Some (end_record r)
arrival_record (Mark r) bytes = Some (mark_record r)
arrival_record Bad bytes = None

-- "a body whose length the kind fixes"
unfoldable pub Sized : Arrival → ℕ → Type 0
Sized (Born r) n = n ≡ record_bytes born_kind
Sized (Gone r) n = n ≡ record_bytes gone_kind
Sized (Column r) n = n ≡ record_bytes column_kind
Sized (End r) n = n ≡ record_bytes end_kind
Sized (Mark r) n = n ≡ record_bytes mark_kind
Sized Bad n = Unit

-- the reader tells what the model decodes
pub record ReadAs (r : Arrival) (bytes : List ℕ) : Type 0 where
  pub same : arrival_record r bytes ≡ decode bytes
  pub size : Sized r (length bytes)

-- ── what a schema lists: it is given by the number of columns of each table ──
abbrev pub column_counts : Schema → List ℕ
column_counts s = map (λ (t : Table). length t.columns) s

-- refusal 8, "an all-zero id, a table .. the schema lacks": the opposite, for a schema of n tables
unfoldable pub known_in : ℕ → ℕ → ℕ → Bool
known_in n t i = ltb t n && not (eqb i 0) && ltb i (256 ^ id_bytes)

-- and "a .. column the schema lacks"
unfoldable pub listed_in : List ℕ → Change → Bool
listed_in counts (born t i) = known_in (length counts) t i
listed_in counts (gone t i) = known_in (length counts) t i
listed_in counts (column t i c v) = known_in (length counts) t i && ltb c (get_or counts t 0)
listed_in counts end = true

-- what `sound` asks beyond that: "a value that isn't in canonical form for its type", the opposite
unfoldable pub canonical_in : Schema → Change → Bool
canonical_in s (born t i) = true
canonical_in s (gone t i) = true
canonical_in s (column t i c v) = allows (columns_of s t) c v
canonical_in s end = true

-- a mark names none of these
unfoldable pub listed_record : List ℕ → Option Record → Bool
listed_record counts None = false
listed_record counts (Some (numbered u n e)) = listed_in counts e
listed_record counts (Some (mark u n)) = true
