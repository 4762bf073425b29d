-- The bytes of a store's and a mirror's area, and when they are in good order (document 01, "the area keeps the schema"; "Good order, for a store: .."). An area in good order
-- is exactly the encoding of one state (reading 16). Assumes nothing: these are definitions.
use Rattle.std.specs.Prelude.{ℕ, zero, suc, ◌+◌, ◌-◌, ◌*◌, ◌^◌, Bool, true, false, not, ◌&&◌, ◌||◌, List, [], ◌∷◌, ◌++◌, map, eqb, ltb, leb, length, get_or, take, drop, replicate, Option, Some, None}
use Rattle.model.specs.Octets.{big, value, part, chunks, eq_bytes}
use Rattle.model.specs.Limits.{most_columns, most_rows, most_elements, number_bytes, id_bytes, id_offset, counts_offset, row_cell_count, row_bytes, entry_bytes, entry_count, run_offset, number_offset, catalog_offset, count_offset, rows_offset, store_bytes}
use Rattle.model.specs.Base.{all, every, flat}
use Rattle.model.specs.Schema.{Column, Schema, Database, columns_of}
use Rattle.model.specs.Value.{Value, blank, canonical_for, meets}
use Rattle.model.specs.Rows.{Row, key, has_id}
use Rattle.model.specs.Records.{known, cut}
use Rattle.model.specs.Mirror.{Mirror}
use Rattle.model.specs.Sane.{sane}
use Rattle.model.specs.Commit.{lawful}
use Rattle.model.specs.Catalog.{bit, database_from, catalog_of}

-- ── a row in 25 cells of 25 bytes: cell 0 is the table, the id, six counts and two zeros; cells 1 + 4c to 4 + 4c are the atoms of column c ──
abbrev pub head_cell : Row → List ℕ
head_cell r = r.table ∷ big id_bytes r.id ++ (map (λ (v : Value). v.count) r.columns ++ replicate (most_columns + 2 - length r.columns) 0)

abbrev pub atom_cells : List Value → List (List ℕ)
atom_cells [] = []
atom_cells (v ∷ vs) = v.atoms ++ atom_cells vs

-- columns that the table lacks are zeros
unfoldable pub row_cells : Row → List (List ℕ)
row_cells r = head_cell r ∷ atom_cells r.columns ++ replicate (most_elements * (most_columns - length r.columns)) blank

-- n columns, by their counts and their atoms
abbrev pub columns_from : ℕ → List ℕ → List (List ℕ) → List Value
columns_from zero counts cells = []
columns_from (suc n) counts cells = record { count = get_or counts 0 0; atoms = take most_elements cells } ∷ columns_from n (drop 1 counts) (drop most_elements cells)

-- the row that cells are; how many columns it has its table says
unfoldable pub row_from : Schema → List (List ℕ) → Row
row_from s cells =
    let head = get_or cells 0 [] in
    let t = get_or head 0 0 in
    record { table = t; id = value (part id_offset id_bytes head); columns = columns_from (length (columns_of s t)) (drop counts_offset head) (drop 1 cells) }

-- ── a store's area: run 4, number 4, the catalog in its entries, row count 1, 32 rows; unused bytes zero ──
-- "the area keeps the schema": as the database that its text was read as
pub record Store : Type 0 where
  pub run : ℕ
  pub number : ℕ
  pub database : Database
  pub rows : List Row

abbrev pub rows_bytes : List Row → List ℕ
rows_bytes [] = []
rows_bytes (r ∷ rs) = flat (row_cells r) ++ rows_bytes rs

unfoldable pub encode_store : Store → List ℕ
encode_store st =
    big number_bytes st.run
    ++ (big number_bytes st.number
    ++ (flat (catalog_of st.database)
    ++ (length st.rows ∷ rows_bytes st.rows ++ replicate (row_bytes * (most_rows - length st.rows)) 0)))

abbrev pub rows_from : Schema → ℕ → List ℕ → List Row
rows_from s zero b = []
rows_from s (suc n) b = row_from s (cut row_cell_count b) ∷ rows_from s n (drop row_bytes b)

-- the catalog's entries, and what they say
abbrev pub entries_in : List ℕ → List (List ℕ)
entries_in a = chunks entry_bytes entry_count (drop catalog_offset a)

abbrev pub database_in : List ℕ → Database
database_in a = database_from (entries_in a)

unfoldable pub decode_store : List ℕ → Store
decode_store a =
    record {
      run = value (part run_offset number_bytes a);
      number = value (part number_offset number_bytes a);
      database = database_in a;
      rows = rows_from (database_in a).tables (get_or a count_offset 0) (drop rows_offset a);
    }

-- ── a mirror's area: the same, and after it highest heard 4, whether anything was heard 1, whether n is 0 or ends a commit 1 ──
pub record MirrorState : Type 0 where
  pub run : ℕ
  pub database : Database
  pub mirror : Mirror

-- n stands where a store has its number
abbrev pub store_part : MirrorState → Store
store_part m = record { run = m.run; number = m.mirror.n; database = m.database; rows = m.mirror.rows }

unfoldable pub encode_mirror : MirrorState → List ℕ
encode_mirror m = encode_store (store_part m) ++ (big number_bytes m.mirror.top ++ bit m.mirror.heard ∷ bit m.mirror.whole ∷ [])

unfoldable pub decode_mirror : List ℕ → MirrorState
decode_mirror a =
    let st = decode_store a in
    let b = drop store_bytes a in
    record {
      run = st.run;
      database = st.database;
      mirror = record { rows = st.rows; n = st.number; top = value (take number_bytes b); heard = eqb (get_or b number_bytes 0) 1; whole = eqb (get_or b (number_bytes + 1) 0) 1 };
    }

-- ── good order ──
-- rows above a key, each above the last: tables in order, and in a table ids ascending
abbrev pub ascends_from : ℕ → List Row → Bool
ascends_from k [] = true
ascends_from k (r ∷ rs) = ltb k (key r) && ascends_from (key r) rs

abbrev pub ascends : List Row → Bool
ascends [] = true
ascends (r ∷ rs) = ascends_from (key r) rs

-- "ids are distinct", over all tables
abbrev pub distinct_ids : List Row → Bool
distinct_ids [] = true
distinct_ids (r ∷ rs) = not (has_id r.id rs) && distinct_ids rs

-- as many values as columns, each of which passes its column's test
abbrev pub values_pass : (Column → Value → Bool) → List Column → List Value → Bool
values_pass p [] [] = true
values_pass p [] (v ∷ vs) = false
values_pass p (c ∷ cs) [] = false
values_pass p (c ∷ cs) (v ∷ vs) = p c v && values_pass p cs vs

-- "ids are .. not zero", a table of the schema
abbrev pub row_passes : (Column → Value → Bool) → Schema → Row → Bool
row_passes p s r = known s r.table r.id && values_pass p (columns_of s r.table) r.columns

abbrev pub rows_tests : (Column → Value → Bool) → Schema → List Row → List Bool
rows_tests p s rows = leb (length rows) most_rows ∷ ascends rows ∷ distinct_ids rows ∷ all (row_passes p s) rows ∷ []

unfoldable pub rows_pass : (Column → Value → Bool) → Schema → List Row → Bool
rows_pass p s rows = every (rows_tests p s rows)

-- "it holds an accepted schema"; the numbers have their widths
abbrev pub head_tests : Store → List Bool
head_tests st = sane st.database ∷ ltb st.run (256 ^ number_bytes) ∷ ltb st.number (256 ^ number_bytes) ∷ []

-- an area in good order is the encoding of a state that passes a test: that state, or none
module _ {S : Type 0} (encode : S → List ℕ) (decode : List ℕ → S) (good : S → Bool) where
  abbrev pub state_of : List ℕ → Option S
  state_of a = elim (eq_bytes (encode (decode a)) a && good (decode a)) [ true ↦ Some (decode a) | false ↦ None ]

-- "Good order, for a store: .. every value is canonical and meets its type, and every commit rule below holds"
unfoldable pub store_good : Store → Bool
store_good st = every (head_tests st) && rows_pass meets st.database.tables st.rows && lawful st.database.tables st.rows

-- the state of a store's area; none where it is not in good order (refusal 1)
unfoldable pub store_of : List ℕ → Option Store
store_of a = state_of encode_store decode_store store_good a

-- "n at most the highest heard"; one that has heard nothing has highest 0, and n = 0 is whole
abbrev pub mirror_tests : Mirror → List Bool
mirror_tests m = ltb m.top (256 ^ number_bytes) ∷ leb m.n m.top ∷ (m.heard || eqb m.top 0) ∷ (m.whole || not (eqb m.n 0)) ∷ []

-- "For a mirror: the same of schema and ids, values canonical, n at most the highest heard; limits, minimum counts and references aren't judged"
unfoldable pub mirror_good : MirrorState → Bool
mirror_good m = every (head_tests (store_part m)) && rows_pass canonical_for m.database.tables m.mirror.rows && every (mirror_tests m.mirror)

unfoldable pub mirror_of : List ℕ → Option MirrorState
mirror_of a = state_of encode_mirror decode_mirror mirror_good a
