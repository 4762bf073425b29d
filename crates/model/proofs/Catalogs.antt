-- A catalog is read back as the database that it was made of, in its length. Assumes nothing.
use Rattle.std.specs.Prelude.{Option, Some, None}
use mathlib.Core.Path.{◌≡◌, refl, sym, ◌∙◌, ap}
use mathlib.Core.Bool.{Bool, true, false, ◌&&◌}
use mathlib.Core.List.{List, [], ◌∷◌, ◌++◌, map, append_assoc, append-nil}
use Prim.Native.Nat.{ℕ, zero, suc, ◌+◌, ◌-◌, ◌*◌, ◌≤◌}
use native.Mathlib.Omega.{arith}
use borrow.Author.Tests.{eq-eqb, leb-true}
use lib.Dec.{eqb, leb}
use lib.ListN.{length, get_or, take, drop, replicate, length-append, length-map, length-replicate}
use lib.Seq.{take_at, drop_at, drop-drop, get_or-drop}
use Rattle.model.specs.Octets.{big, value, twos, part}
use Rattle.model.specs.Base.{all, is_some, flat}
use Rattle.model.specs.Limits.{most_columns, entry_bytes, entry_count, catalog_bytes}
use Rattle.model.specs.Schema.{Base, integer, boolean, text, uuid, Refers, plain, strong, weak, Column, Table, Schema, Database}
use Rattle.model.specs.SchemaText.{is_letter, is_id_byte, is_id, base_number}
use Rattle.model.specs.Value.{from_twos}
use Rattle.model.specs.Sane.{column_sane, sane_column, sane_index, index_sane, max_rows_sane, table_sane, sane_table, database_sane, sane}
use Rattle.model.specs.Catalog.{column_place, base_numbered, entry_name, is_set, refers_from, column_from, indexes_from, max_rows_from, table_from, tables_from, database_from, name_bytes, bit, how_refers, target, column_entry, index_bytes, number_or0, table_entry, database_entry, blank_entry, in_room, column_entries, catalog_of}
use Rattle.model.proofs.Tests.{and_l, and_r, parts}
use Rattle.model.proofs.Lists.{all_append, all_cons, all_same}
use Rattle.model.proofs.Octets.{value_big_fits}
use Rattle.model.proofs.Signed.{twos_fits}
use Rattle.model.proofs.Bytes.{sized_as, length_parts}
use Rattle.model.proofs.SchemaLaws.{all_map}

-- ── lists ──
-- what stands past a front of n elements
module _ {A : Type 0} (d : A) where
  pub get_d_past : (p q : List A) (n k : ℕ) → length p ≡ n → get_or (p ++ q) (n + k) d ≡ get_or q k d
  get_d_past [] q zero k e = ap (λ (i : ℕ). get_or q i d) (omega arith)
  get_d_past [] q (suc n) k e = absurd (omega arith)
  get_d_past (x ∷ p) q zero k e = absurd (omega arith)
  get_d_past (x ∷ p) q (suc n) k e = let f : suc n + k ≡ suc (n + k) = omega arith in rw f (get_d_past p q n k (omega arith))

pub drop_past : {A : Type 0} (p q : List A) (n k : ℕ) → length p ≡ n → drop (n + k) (p ++ q) ≡ drop k q
drop_past p q n k e = sym (drop-drop k n (p ++ q)) ∙ ap (drop k) (drop_at p q n e)

-- ── names ──
pub id_short : (w : List ℕ) → is_id w ≡ true → length w ≤ 24
unfolding is_id
id_short [] h = omega arith
id_short (b ∷ bs) h = leb-true (suc (length bs)) 24 (and_r (is_letter b && all is_id_byte bs) (leb (suc (length bs)) 24) h)

module _ (w : List ℕ) (h : length w ≤ 24) where
  pub name_length : length (name_bytes w) ≡ 25
  name_length = simp (length-append, length-replicate) (omega arith)

  module _ (rest : List ℕ) where
    pub name_read : entry_name (name_bytes w ++ rest) ≡ w
    name_read = ap (take (length w)) (append_assoc w (replicate (24 - length w) 0) rest) ∙ take_at w (replicate (24 - length w) 0 ++ rest) (length w) refl

    pub byte_past : (k : ℕ) → get_or (name_bytes w ++ rest) (25 + k) 0 ≡ get_or rest k 0
    byte_past k = get_d_past 0 (name_bytes w) rest 25 k name_length

    pub part_past : (k n : ℕ) → part (25 + k) n (name_bytes w ++ rest) ≡ part k n rest
    part_past k n = ap (take n) (drop_past (name_bytes w) rest 25 k name_length)

-- ── columns ──
base_read : (b : Base) → base_numbered (base_number b) ≡ b
unfolding base_numbered base_number
base_read integer = refl
base_read boolean = refl
base_read text = refl
base_read uuid = refl

refers_read : (r : Refers) → refers_from (how_refers r) (target r) ≡ r
unfolding refers_from
refers_read plain = refl
refers_read (strong t) = refl
refers_read (weak t) = refl

bit_read : (b : Bool) → eqb (bit b) 1 ≡ b
bit_read true = refl
bit_read false = refl

module _ (n : ℕ) (c : Column) (h : sane_column n c ≡ true) where
  short : length c.name ≤ 24
  unfolding sane_column
  short = id_short c.name (parts (column_sane n c) h).0

  rest : List ℕ
  rest = base_number c.base ∷ how_refers c.refers ∷ target c.refers ∷ c.min ∷ c.max ∷ bit c.mutable ∷ big 8 (twos 64 c.low) ++ (big 8 (twos 64 c.high) ++ 0 ∷ [])

  pub column_sized : sized_as entry_bytes (column_entry c) ≡ true
  column_sized = eq-eqb (length (column_entry c)) 48 (simp (length-append, length-replicate) (omega (arith, short)))

  pub column_read : column_from (column_entry c) ≡ c
  unfolding rest sane_column
  column_read =
      let p = parts (column_sane n c) h in
      let low = twos_fits c.low p.1.1.1.1.1.1.1.1.0 in
      let high = twos_fits c.high p.1.1.1.1.1.1.1.1.1.0 in
      let b : (k : ℕ) → get_or (column_entry c) (25 + k) 0 ≡ get_or rest k 0 = byte_past c.name short rest in
      λ j. record {
        name = name_read c.name short rest j;
        base = (ap base_numbered (b 0) ∙ base_read c.base) j;
        refers = ((λ i. refers_from (b 1 i) (b 2 i)) ∙ refers_read c.refers) j;
        min = b 3 j;
        max = b 4 j;
        low = (ap (λ (l : List ℕ). from_twos (value l)) (part_past c.name short rest 6 8) ∙ ap from_twos (value_big_fits 8 (twos 64 c.low) low.1) ∙ low.0) j;
        high = (ap (λ (l : List ℕ). from_twos (value l)) (part_past c.name short rest 14 8) ∙ ap from_twos (value_big_fits 8 (twos 64 c.high) high.1) ∙ high.0) j;
        mutable = (ap (λ (k : ℕ). eqb k 1) (b 5) ∙ bit_read c.mutable) j;
      }

-- ── tables ──
-- an index of at most three columns in its four bytes
module _ (l : List ℕ) (h : length l ≤ 3) where
  index_length : length (index_bytes l) ≡ 4
  index_length = simp (length-append, length-replicate) (omega arith)

  index_read : (rest : List ℕ) → take (length l) ((l ++ replicate (3 - length l) 0) ++ rest) ≡ l
  index_read rest = ap (take (length l)) (append_assoc l (replicate (3 - length l) 0) rest) ∙ take_at l (replicate (3 - length l) 0 ++ rest) (length l) refl

-- the indexes in their bytes, and how many
abbrev slots : List (List ℕ) → List ℕ
slots ls = flat (map index_bytes ls) ++ replicate (4 * (2 - length ls)) 0

few_columns : List ℕ → Bool
few_columns l = leb (length l) 3

slots_length : (ls : List (List ℕ)) → length ls ≤ 2 → all few_columns ls ≡ true → length (slots ls) ≡ 8
unfolding few_columns
slots_length [] n h = refl
slots_length (a ∷ []) n h = simp (length-append, length-replicate) (omega (arith, leb-true (length a) 3 (and_l (few_columns a) true h)))
slots_length (a ∷ b ∷ []) n h =
    simp (length-append, length-replicate)
    (omega (arith, leb-true (length a) 3 (and_l (few_columns a) _ h), leb-true (length b) 3 (and_l (few_columns b) true (and_r (few_columns a) _ h))))
slots_length (a ∷ b ∷ c ∷ ls) n h = absurd (omega arith)

-- the two indexes that stand in bytes
abbrev two_of : ℕ → List ℕ → List (List ℕ)
two_of n b = take n (part 1 (get_or b 0 0) b ∷ part 5 (get_or b 4 0) b ∷ [])

slots_read : (ls : List (List ℕ)) (tail : List ℕ) → length ls ≤ 2 → all few_columns ls ≡ true → two_of (length ls) (slots ls ++ tail) ≡ ls
unfolding few_columns
slots_read [] tail n h = refl
slots_read (a ∷ []) tail n h =
    let la = leb-true (length a) 3 (and_l (few_columns a) true h) in
    λ j. (ap (take (length a)) (ap (λ (x : List ℕ). x ++ tail) (append_assoc (a ++ replicate (3 - length a) 0) [] (replicate 4 0)) ∙ append_assoc (a ++ replicate (3 - length a) 0) (replicate 4 0) tail) ∙ index_read a la (replicate 4 0 ++ tail)) j ∷ []
slots_read (a ∷ b ∷ []) tail n h =
    let la = leb-true (length a) 3 (and_l (few_columns a) _ h) in
    let lb = leb-true (length b) 3 (and_l (few_columns b) true (and_r (few_columns a) _ h)) in
    let za = a ++ replicate (3 - length a) 0 in
    let zb = b ++ replicate (3 - length b) 0 in
    -- the bytes, the first index in front
    let e : slots (a ∷ b ∷ []) ++ tail ≡ index_bytes a ++ (index_bytes b ++ tail) =
    ap (λ (x : List ℕ). x ++ tail) (append-nil (index_bytes a ++ (index_bytes b ++ [])) ∙ ap (λ (x : List ℕ). index_bytes a ++ x) (append-nil (index_bytes b))) ∙ append_assoc (index_bytes a) (index_bytes b) tail in
    let first : part 1 (get_or (slots (a ∷ b ∷ []) ++ tail) 0 0) (slots (a ∷ b ∷ []) ++ tail) ≡ a = ap (λ (x : List ℕ). part 1 (get_or x 0 0) x) e ∙ index_read a la (index_bytes b ++ tail) in
    let c : get_or (index_bytes a ++ (index_bytes b ++ tail)) 4 0 ≡ length b = get_d_past 0 (index_bytes a) (index_bytes b ++ tail) 4 0 (index_length a la) in
    let d : drop 5 (index_bytes a ++ (index_bytes b ++ tail)) ≡ zb ++ tail = drop_past (index_bytes a) (index_bytes b ++ tail) 4 1 (index_length a la) in
    let second : part 5 (get_or (slots (a ∷ b ∷ []) ++ tail) 4 0) (slots (a ∷ b ∷ []) ++ tail) ≡ b = ap (λ (x : List ℕ). part 5 (get_or x 4 0) x) e ∙ (λ i. take (c i) (d i)) ∙ index_read b lb tail in
    λ j. first j ∷ second j ∷ []
slots_read (a ∷ b ∷ c ∷ ls) tail n h = absurd (omega arith)

max_rows_read : (m : Option ℕ) → max_rows_sane m ≡ true → elim (eqb (bit (is_some m)) 1) [ true ↦ Some (value (big 8 (number_or0 m))) | false ↦ None ] ≡ m
max_rows_read None h = refl
max_rows_read (Some k) h = ap Some (value_big_fits 8 k (omega (arith, leb-true k 9223372036854775807 (and_r (leb 1 k) _ h))))

index_few : (n : ℕ) (l : List ℕ) → sane_index n l ≡ true → few_columns l ≡ true
unfolding sane_index few_columns
index_few n l h = (parts (index_sane n l) h).1.0

all_few : (n : ℕ) (ls : List (List ℕ)) → all (sane_index n) ls ≡ true → all few_columns ls ≡ true
all_few n [] h = refl
all_few n (l ∷ ls) h = rw (index_few n l (and_l (sane_index n l) _ h), all_few n ls (and_r (sane_index n l) _ h))

module _ (n : ℕ) (t : Table) (h : sane_table n t ≡ true) where
  t_short : length t.name ≤ 24
  unfolding sane_table
  t_short = id_short t.name (parts (table_sane n t) h).0

  pub t_narrow : length t.columns ≤ 6
  unfolding sane_table
  t_narrow = leb-true (length t.columns) 6 (parts (table_sane n t) h).1.0

  t_indexes : length t.indexes ≤ 2
  unfolding sane_table
  t_indexes = leb-true (length t.indexes) 2 (parts (table_sane n t) h).1.1.1.0

  t_few : all few_columns t.indexes ≡ true
  unfolding sane_table
  t_few = all_few (length t.columns) t.indexes (parts (table_sane n t) h).1.1.1.1.0

  t_rest : List ℕ
  t_rest = length t.columns ∷ bit t.root ∷ bit (is_some t.max_rows) ∷ big 8 (number_or0 t.max_rows) ++ (length t.indexes ∷ slots t.indexes ++ replicate 3 0)

  pub table_sized : sized_as entry_bytes (table_entry t) ≡ true
  table_sized =
      eq-eqb (length (table_entry t)) 48
      (length-append (name_bytes t.name) t_rest' ∙ (let e : length (slots t.indexes ++ replicate 3 0) ≡ 11 = length-append (slots t.indexes) (replicate 3 0) ∙ ap (λ (k : ℕ). k + 3) (slots_length t.indexes t_indexes t_few) in omega (arith, name_length t.name t_short)))
    where
      t_rest' : List ℕ
      t_rest' = length t.columns ∷ bit t.root ∷ bit (is_some t.max_rows) ∷ big 8 (number_or0 t.max_rows) ++ (length t.indexes ∷ slots t.indexes ++ replicate 3 0)

  -- how many columns it has
  pub width_read : get_or (table_entry t) 25 0 ≡ length t.columns
  unfolding t_rest
  width_read = byte_past t.name t_short t_rest 0

  -- its entry, and the entries of its columns at the front of some
  pub table_read : (cs : List (List ℕ)) → map column_from (take (length t.columns) cs) ≡ t.columns
      → record {
        name = entry_name (table_entry t);
        columns = map column_from (take (get_or (table_entry t) 25 0) cs);
        root = is_set (table_entry t) 26;
        max_rows = max_rows_from (table_entry t);
        indexes = indexes_from (table_entry t);
      } ≡ t
  unfolding t_rest sane_table
  table_read cs e =
      let p = parts (table_sane n t) h in
      let b : (k : ℕ) → get_or (table_entry t) (25 + k) 0 ≡ get_or t_rest k 0 = byte_past t.name t_short t_rest in
      let d : (k : ℕ) → drop (25 + k) (table_entry t) ≡ drop k t_rest = (λ k. drop_past (name_bytes t.name) t_rest 25 k (name_length t.name t_short)) in
      λ j. record {
        name = name_read t.name t_short t_rest j;
        columns = ((λ i. map column_from (take (b 0 i) cs)) ∙ e) j;
        root = (ap (λ (k : ℕ). eqb k 1) (b 1) ∙ bit_read t.root) j;
        max_rows = ((λ i. elim (eqb (b 2 i) 1) [ true ↦ Some (value (take 8 (d 3 i))) | false ↦ None ]) ∙ max_rows_read t.max_rows p.1.1.1.1.1.1.0) j;
        indexes = ((λ i. take (b 11 i) (take (b 12 i) (d 13 i) ∷ take (b 16 i) (d 17 i) ∷ [])) ∙ slots_read t.indexes (replicate 3 0) t_indexes t_few) j;
      }

-- ── the catalog ──
room_length : (k : ℕ) (l : List (List ℕ)) → length l ≤ k → length (in_room k l) ≡ k
room_length k l h = simp (length-append, length-replicate) (omega arith)

room_sized : (k : ℕ) (l : List (List ℕ)) → all (sized_as entry_bytes) l ≡ true → all (sized_as entry_bytes) (in_room k l) ≡ true
room_sized k l h = all_append (sized_as entry_bytes) l (replicate (k - length l) blank_entry) h (all_same (sized_as entry_bytes) (k - length l) blank_entry refl)

module _ (n : ℕ) where
  columns_read : (cs : List Column) (rest : List (List ℕ)) → all (sane_column n) cs ≡ true → map column_from (take (length cs) (map column_entry cs ++ rest)) ≡ cs
  columns_read [] rest h = refl
  columns_read (c ∷ cs) rest h = λ j. column_read n c (and_l (sane_column n c) (all (sane_column n) cs) h) j ∷ columns_read cs rest (and_r (sane_column n c) (all (sane_column n) cs) h) j

  columns_sized : (cs : List Column) → all (sane_column n) cs ≡ true → all (sized_as entry_bytes) (map column_entry cs) ≡ true
  columns_sized cs h = all_map (sized_as entry_bytes) (sane_column n) column_entry (column_sized n) cs h

  tables_sized : (s : Schema) → all (sane_table n) s ≡ true → all (sized_as entry_bytes) (map table_entry s) ≡ true
  tables_sized s h = all_map (sized_as entry_bytes) (sane_table n) table_entry (table_sized n) s h

  -- the columns of one table, in their room
  room_of : (t : Table) → sane_table n t ≡ true → length (in_room most_columns (map column_entry t.columns)) ≡ 6
  room_of t h = room_length 6 (map column_entry t.columns) (omega (arith, length-map t.columns column_entry, t_narrow n t h))

  table_columns_lem : (t : Table) → sane_table n t ≡ true → all (sane_column n) t.columns ≡ true
  unfolding sane_table
  table_columns_lem t h = (parts (table_sane n t) h).1.1.0

  entries_length : (k : ℕ) (s : Schema) → all (sane_table n) s ≡ true → length (column_entries k s) ≡ 6 * k
  entries_length zero s h = refl
  entries_length (suc k) [] h = length-append (replicate 6 blank_entry) (column_entries k []) ∙ (let q = entries_length k [] h in omega arith)
  entries_length (suc k) (t ∷ s) h =
      length-append (in_room 6 (map column_entry t.columns)) (column_entries k s)
      ∙ (let p = room_of t (and_l (sane_table n t) (all (sane_table n) s) h) in
      let q = entries_length k s (and_r (sane_table n t) (all (sane_table n) s) h) in
      rw (p, q) (omega arith))

  entries_sized : (k : ℕ) (s : Schema) → all (sane_table n) s ≡ true → all (sized_as entry_bytes) (column_entries k s) ≡ true
  entries_sized zero s h = refl
  entries_sized (suc k) [] h = all_append (sized_as entry_bytes) (replicate 6 blank_entry) (column_entries k []) refl (entries_sized k [] h)
  entries_sized (suc k) (t ∷ s) h =
      all_append (sized_as entry_bytes) (in_room 6 (map column_entry t.columns)) (column_entries k s)
      (room_sized 6 (map column_entry t.columns) (columns_sized t.columns (table_columns_lem t (and_l (sane_table n t) (all (sane_table n) s) h))))
      (entries_sized k s (and_r (sane_table n t) (all (sane_table n) s) h))

  -- tables from number i on: their entries, and the entries of their columns
  tables_read : (cells : List (List ℕ)) (i k : ℕ) (s : Schema) (rest : List (List ℕ)) → all (sane_table n) s ≡ true → length s ≤ k
      → drop (1 + i) cells ≡ map table_entry s ++ rest → drop (5 + 6 * i) cells ≡ column_entries k s → tables_from cells i (length s) ≡ s
  unfolding table_from
  tables_read cells i k [] rest h l e f = refl
  tables_read cells i zero (t ∷ s) rest h l e f = absurd (omega arith)
  tables_read cells i (suc k) (t ∷ s) rest h l e f =
      let st = and_l (sane_table n t) (all (sane_table n) s) h in
      let ss = and_r (sane_table n t) (all (sane_table n) s) h in
      let room = in_room 6 (map column_entry t.columns) in
      let a : 1 + i + 0 ≡ 1 + i = omega arith in
      let x : get_or cells (1 + i) [] ≡ table_entry t = sym (get_or-drop (1 + i) cells 0 [] ∙ ap (λ (m : ℕ). get_or cells m []) a) ∙ ap (λ (m : List (List ℕ)). get_or m 0 []) e in
      let b : 5 + 6 * i + 0 ≡ 5 + 6 * i = omega arith in
      let y : drop (column_place i 0) cells ≡ room ++ column_entries k s = ap (λ (m : ℕ). drop m cells) b ∙ f in
      let first : table_from cells i ≡ t =
      (λ j. record {
        name = entry_name (x j);
        columns = map column_from (take (get_or (x j) 25 0) (y j));
        root = is_set (x j) 26;
        max_rows = max_rows_from (x j);
        indexes = indexes_from (x j);
      })
      ∙ table_read n t st (room ++ column_entries k s)
      (ap (λ (m : List (List ℕ)). map column_from (take (length t.columns) m)) (append_assoc (map column_entry t.columns) (replicate (6 - length (map column_entry t.columns)) blank_entry) (column_entries k s))
      ∙ columns_read t.columns (replicate (6 - length (map column_entry t.columns)) blank_entry ++ column_entries k s) (table_columns_lem t st)) in
      let g : 1 + i + 1 ≡ 1 + suc i = omega arith in
      let u : 5 + 6 * i + 6 ≡ 5 + 6 * suc i = omega arith in
      let next : drop (1 + suc i) cells ≡ map table_entry s ++ rest = ap (λ (m : ℕ). drop m cells) (sym g) ∙ sym (drop-drop 1 (1 + i) cells) ∙ ap (drop 1) e in
      let more : drop (5 + 6 * suc i) cells ≡ column_entries k s = ap (λ (m : ℕ). drop m cells) (sym u) ∙ sym (drop-drop 6 (5 + 6 * i) cells) ∙ ap (drop 6) f ∙ drop_at room (column_entries k s) 6 (room_of t st) in
      λ j. first j ∷ tables_read cells (suc i) k s rest ss (omega arith) next more j

module _ (d : Database) (h : sane d ≡ true) where
  few : length d.tables ≤ 4
  unfolding sane
  few = leb-true (length d.tables) 4 (parts (database_sane d) h).1.0

  tables_sane : all (sane_table (length d.tables)) d.tables ≡ true
  unfolding sane
  tables_sane = (parts (database_sane d) h).1.1.0

  d_short : length d.name ≤ 24
  unfolding sane
  d_short = id_short d.name (parts (database_sane d) h).0

  heads : List (List ℕ)
  heads = in_room 4 (map table_entry d.tables)

  heads_length : length heads ≡ 4
  unfolding heads
  heads_length = room_length 4 (map table_entry d.tables) (omega (arith, length-map d.tables table_entry, few))

  pub catalog_length : length (catalog_of d) ≡ entry_count
  unfolding catalog_of heads
  catalog_length =
      let e = length-append heads (column_entries 4 d.tables) in
      let f = entries_length (length d.tables) 4 d.tables tables_sane in
      omega (arith, e, f, heads_length)

  database_sized : sized_as entry_bytes (database_entry d) ≡ true
  database_sized = eq-eqb (length (database_entry d)) 48 (length-append (name_bytes d.name) (length d.tables ∷ replicate 22 0) ∙ ap (λ (k : ℕ). k + 23) (name_length d.name d_short))

  pub catalog_sized : all (sized_as entry_bytes) (catalog_of d) ≡ true
  unfolding catalog_of
  catalog_sized =
      all_cons (sized_as entry_bytes) (database_entry d) (in_room 4 (map table_entry d.tables) ++ column_entries 4 d.tables) database_sized
      (all_append (sized_as entry_bytes) (in_room 4 (map table_entry d.tables)) (column_entries 4 d.tables)
      (room_sized 4 (map table_entry d.tables) (tables_sized (length d.tables) d.tables tables_sane))
      (entries_sized (length d.tables) 4 d.tables tables_sane))

  pub catalog_bytes_lem : length (flat (catalog_of d)) ≡ catalog_bytes
  catalog_bytes_lem = omega (arith, length_parts entry_bytes (catalog_of d) catalog_sized, catalog_length)

  -- what is written is read
  pub catalog_read : database_from (catalog_of d) ≡ d
  unfolding catalog_of heads
  catalog_read =
      let k : get_or (database_entry d) 25 0 ≡ length d.tables = byte_past d.name d_short (length d.tables ∷ replicate 22 0) 0 in
      let e = append_assoc (map table_entry d.tables) (replicate (4 - length (map table_entry d.tables)) blank_entry) (column_entries 4 d.tables) in
      let f : drop 4 (heads ++ column_entries 4 d.tables) ≡ column_entries 4 d.tables = drop_at heads (column_entries 4 d.tables) 4 heads_length in
      λ j. record {
        name = name_read d.name d_short (length d.tables ∷ replicate 22 0) j;
        tables = (ap (tables_from (catalog_of d) 0) k ∙ tables_read (length d.tables) (catalog_of d) 0 4 d.tables (replicate (4 - length (map table_entry d.tables)) blank_entry ++ column_entries 4 d.tables) tables_sane few e f) j;
      }
