-- Areas: what is encoded is decoded, in its length; an area in good order is the encoding of its state, and the encoding of a state in good order is that area. Assumes nothing.
use Rattle.std.specs.Prelude.{Some, None}
use mathlib.Core.Path.{◌≡◌, refl, sym, ◌∙◌, ap}
use mathlib.Core.Bool.{Bool, true, false, ◌&&◌}
use mathlib.Core.List.{List, [], ◌∷◌, ◌++◌, map, append_assoc, append-nil}
use Prim.Native.Nat.{ℕ, ◌+◌, ◌-◌, ◌*◌, ◌^◌, ◌≤◌, ◌<◌}
use native.Mathlib.Omega.{arith}
use borrow.Author.Tests.{eq-eqb, ltb-true}
use lib.Dec.{eqb}
use lib.ListN.{length, get_or, take, drop, replicate, length-append, length-map, length-replicate}
use lib.Seq.{take_at, drop_at}
use Rattle.model.specs.Octets.{big, value, chunks, eq_bytes}
use Rattle.model.specs.Limits.{entry_bytes, entry_count, catalog_bytes, count_offset, rows_offset, store_bytes, mirror_bytes}
use Rattle.model.specs.Base.{all, every, flat}
use Rattle.model.specs.Schema.{Column, Schema, columns_of}
use Rattle.model.specs.Sane.{sane}
use Rattle.model.specs.Value.{Value, blank, shaped, canonical_tests, canonical_for, meets}
use Rattle.model.specs.Rows.{Row}
use Rattle.model.specs.Records.{cut}
use Rattle.model.proofs.Order.{Typed, Fine, AllFine}
use Rattle.model.specs.Commit.{lawful}
use Rattle.model.specs.Areas.{head_cell, atom_cells, row_cells, columns_from, row_from, Store, rows_bytes, encode_store, rows_from, entries_in, database_in, decode_store, MirrorState, store_part, encode_mirror, decode_mirror, rows_pass, head_tests, state_of, store_good, store_of, mirror_tests, mirror_good, mirror_of}
use Rattle.model.specs.Catalog.{bit, database_from, catalog_of}
use Rattle.model.proofs.Tests.{split, and_l, and_r, parts, bytes_self, bytes_same}
use Rattle.model.proofs.Lists.{all_append, all_cons, all_same}
use Rattle.model.proofs.Octets.{value_big_fits}
use Rattle.model.proofs.Bytes.{sized, chunks_flat, cut_flat, length_flat, four_atoms, value_sized}
use Rattle.model.proofs.GoodOrder.{good_of, meets_pass}
use Rattle.model.proofs.Accepted.{narrow, sane_kept}
use Rattle.model.proofs.Catalogs.{get_d_past, drop_past, catalog_length, catalog_sized, catalog_bytes_lem, catalog_read}
use Rattle.model.proofs.Lengths.{narrow_at, typed_length}

-- ── rows in cells ──
-- four atoms of 25 bytes in each value
abbrev pub Shaped : List Value → Type 0
Shaped [] = Unit
Shaped (v ∷ vs) = (shaped v ≡ true) × Shaped vs

typed_shaped : (cs : List Column) (vs : List Value) → Typed cs vs → Shaped vs
typed_shaped [] [] h = tt
typed_shaped [] (v ∷ vs) h = absurd h
typed_shaped (c ∷ cs) [] h = absurd h
typed_shaped (c ∷ cs) (v ∷ vs) h = ((parts (canonical_tests c v) h.0).0, typed_shaped cs vs h.1)

columns_read : (vs : List Value) (zs : List ℕ) (ws : List (List ℕ)) → Shaped vs → columns_from (length vs) (map (λ (v : Value). v.count) vs ++ zs) (atom_cells vs ++ ws) ≡ vs
columns_read [] zs ws h = refl
columns_read (v ∷ vs) zs ws h =
    let q = four_atoms v h.0 in
    rw (append_assoc v.atoms (atom_cells vs) ws, take_at v.atoms (atom_cells vs ++ ws) 4 q, drop_at v.atoms (atom_cells vs ++ ws) 4 q, columns_read vs zs ws h.1)

cells_length : (vs : List Value) → Shaped vs → length (atom_cells vs) ≡ 4 * length vs
cells_length [] h = refl
cells_length (v ∷ vs) h = simp length-append (omega (arith, four_atoms v h.0, cells_length vs h.1))

cells_sized : (vs : List Value) → Shaped vs → all sized (atom_cells vs) ≡ true
cells_sized [] h = refl
cells_sized (v ∷ vs) h = all_append sized v.atoms (atom_cells vs) (value_sized v h.0) (cells_sized vs h.1)

-- a row whose parts have their widths
pub record Sized (s : Schema) (r : Row) : Type 0 where
  pub short : r.id < 256 ^ 16
  pub count : length r.columns ≡ length (columns_of s r.table)
  pub narrow : length r.columns ≤ 6
  pub shaped : Shaped r.columns

pub fine_sized : (s : Schema) (r : Row) → narrow s ≡ true → Fine s r → Sized s r
fine_sized s r n f =
    let l = typed_length (columns_of s r.table) r.columns f.typed in
    record { short = f.short; count = l; narrow = omega (arith, narrow_at s r.table n); shaped = typed_shaped (columns_of s r.table) r.columns f.typed }

module _ (s : Schema) (r : Row) (z : Sized s r) where
  pub row_read : row_from s (row_cells r) ≡ r
  unfolding row_cells row_from
  row_read = λ j. record {
    table = r.table;
    id = value_big_fits 16 r.id z.short j;
    columns = (ap (λ (n : ℕ). columns_from n (map (λ (v : Value). v.count) r.columns ++ replicate (8 - length r.columns) 0) (atom_cells r.columns ++ replicate (4 * (6 - length r.columns)) blank)) (sym z.count)
        ∙ columns_read r.columns (replicate (8 - length r.columns) 0) (replicate (4 * (6 - length r.columns)) blank) z.shaped) j;
  }

  head_sized : sized (head_cell r) ≡ true
  head_sized = eq-eqb (length (head_cell r)) 25 (simp (length-append, length-map, length-replicate) (omega (arith, z.narrow)))

  row_cells_lem : length (row_cells r) ≡ 25
  unfolding row_cells
  row_cells_lem = simp (length-append, length-replicate) (omega (arith, cells_length r.columns z.shaped, z.narrow))

  row_sized : all sized (row_cells r) ≡ true
  unfolding row_cells
  row_sized =
      all_cons sized (head_cell r) (atom_cells r.columns ++ replicate (4 * (6 - length r.columns)) blank) head_sized
      (all_append sized (atom_cells r.columns) (replicate (4 * (6 - length r.columns)) blank) (cells_sized r.columns z.shaped) (all_same sized (4 * (6 - length r.columns)) blank refl))

  pub row_length : length (flat (row_cells r)) ≡ 625
  row_length = omega (arith, length_flat (row_cells r) row_sized, row_cells_lem)

  pub row_cut : (rest : List ℕ) → cut 25 (flat (row_cells r) ++ rest) ≡ row_cells r
  row_cut rest = cut_flat 25 (row_cells r) rest row_cells_lem row_sized

-- ── rows one after another ──
abbrev pub AllSized : Schema → List Row → Type 0
AllSized s [] = Unit
AllSized s (r ∷ rs) = Sized s r × AllSized s rs

all_sized : (s : Schema) (rows : List Row) → narrow s ≡ true → AllFine s rows → AllSized s rows
all_sized s [] n f = tt
all_sized s (r ∷ rs) n f = (fine_sized s r n f.0, all_sized s rs n f.1)

rows_read_lem : (s : Schema) (rows : List Row) (rest : List ℕ) → AllSized s rows → rows_from s (length rows) (rows_bytes rows ++ rest) ≡ rows
rows_read_lem s [] rest z = refl
rows_read_lem s (r ∷ rs) rest z =
    let e = append_assoc (flat (row_cells r)) (rows_bytes rs) rest in
    let p : row_from s (cut 25 (rows_bytes (r ∷ rs) ++ rest)) ≡ r = ap (λ (x : List ℕ). row_from s (cut 25 x)) e ∙ ap (row_from s) (row_cut s r z.0 (rows_bytes rs ++ rest)) ∙ row_read s r z.0 in
    let q : rows_from s (length rs) (drop 625 (rows_bytes (r ∷ rs) ++ rest)) ≡ rs =
    ap (λ (x : List ℕ). rows_from s (length rs) (drop 625 x)) e ∙ ap (rows_from s (length rs)) (drop_at (flat (row_cells r)) (rows_bytes rs ++ rest) 625 (row_length s r z.0)) ∙ rows_read_lem s rs rest z.1 in
    λ j. p j ∷ q j

pub rows_length : (s : Schema) (rows : List Row) → AllSized s rows → length (rows_bytes rows) ≡ 625 * length rows
rows_length s [] z = refl
rows_length s (r ∷ rs) z = simp length-append (omega (arith, row_length s r z.0, rows_length s rs z.1))

-- ── the store part of an area ──
pub record Fits (st : Store) : Type 0 where
  pub run : st.run < 256 ^ 4
  pub number : st.number < 256 ^ 4
  pub accepted : sane st.database ≡ true
  pub few : length st.rows ≤ 32
  pub rows : AllSized st.database.tables st.rows

pub pass_fits : (st : Store) → every (head_tests st) ≡ true → rows_pass canonical_for st.database.tables st.rows ≡ true → Fits st
pass_fits st h p =
    let t = parts (head_tests st) h in
    let g = good_of st.database.tables st.rows p in
    record {
      run = ltb-true st.run (256 ^ 4) t.1.0;
      number = ltb-true st.number (256 ^ 4) t.1.1.0;
      accepted = t.0;
      few = g.few;
      rows = all_sized st.database.tables st.rows (sane_kept st.database t.0).narrow g.fine;
    }

module _ (st : Store) (f : Fits st) where
  -- the catalog, and what stands behind it
  catalog : List ℕ
  catalog = flat (catalog_of st.database)

  behind : List ℕ
  behind = length st.rows ∷ rows_bytes st.rows ++ replicate (625 * (32 - length st.rows)) 0

  catalog_wide : length catalog ≡ catalog_bytes
  unfolding catalog
  catalog_wide = catalog_bytes_lem st.database f.accepted

  behind_length : length behind ≡ 20001
  unfolding behind
  behind_length = simp (length-append, length-replicate) (omega (arith, rows_length st.database.tables st.rows f.rows, f.few))

  pub store_length : length (encode_store st) ≡ store_bytes
  unfolding encode_store catalog behind
  store_length = let e = length-append catalog behind in omega (arith, e, catalog_wide, behind_length)

  module _ (tail : List ℕ) where
    Behind : (catalog ++ behind) ++ tail ≡ catalog ++ (behind ++ tail)
    Behind = append_assoc catalog behind tail

    pub read_catalog : entries_in (encode_store st ++ tail) ≡ catalog_of st.database
    unfolding encode_store catalog behind
    read_catalog =
        ap (chunks entry_bytes entry_count) Behind
        ∙ chunks_flat entry_bytes entry_count (catalog_of st.database) (behind ++ tail) (catalog_length st.database f.accepted) (catalog_sized st.database f.accepted)

    pub read_database : database_in (encode_store st ++ tail) ≡ st.database
    read_database = ap database_from read_catalog ∙ catalog_read st.database f.accepted

    pub read_count : get_or (encode_store st ++ tail) count_offset 0 ≡ length st.rows
    unfolding encode_store catalog behind
    read_count = ap (λ (l : List ℕ). get_or l catalog_bytes 0) Behind ∙ get_d_past 0 catalog (behind ++ tail) catalog_bytes 0 catalog_wide

    pub read_rest : drop rows_offset (encode_store st ++ tail) ≡ rows_bytes st.rows ++ (replicate (625 * (32 - length st.rows)) 0 ++ tail)
    unfolding encode_store catalog behind
    read_rest = ap (drop (catalog_bytes + 1)) Behind ∙ drop_past catalog (behind ++ tail) catalog_bytes 1 catalog_wide ∙ append_assoc (rows_bytes st.rows) (replicate (625 * (32 - length st.rows)) 0) tail

    pub store_read : decode_store (encode_store st ++ tail) ≡ st
    unfolding encode_store decode_store
    store_read = λ j. record {
      run = value_big_fits 4 st.run f.run j;
      number = value_big_fits 4 st.number f.number j;
      database = read_database j;
      rows = ((λ k. rows_from (read_database k).tables (read_count k) (read_rest k)) ∙ rows_read_lem st.database.tables st.rows (replicate (625 * (32 - length st.rows)) 0 ++ tail) f.rows) j;
    }

-- ── a mirror's area ──
bit_read : (b : Bool) → eqb (bit b) 1 ≡ b
bit_read true = refl
bit_read false = refl

module _ (m : MirrorState) (f : Fits (store_part m)) where
  -- what stands Behind the store part
  flags : List ℕ
  flags = big 4 m.mirror.top ++ bit m.mirror.heard ∷ bit m.mirror.whole ∷ []

  read_flags : drop store_bytes (encode_mirror m) ≡ flags
  unfolding encode_mirror flags
  read_flags = drop_at (encode_store (store_part m)) flags store_bytes (store_length (store_part m) f)

  pub mirror_length : length (encode_mirror m) ≡ mirror_bytes
  unfolding encode_mirror
  mirror_length = simp length-append (omega (arith, store_length (store_part m) f))

  pub mirror_read : m.mirror.top < 256 ^ 4 → decode_mirror (encode_mirror m) ≡ m
  unfolding encode_mirror decode_mirror flags
  mirror_read t =
      let e : decode_store (encode_mirror m) ≡ store_part m = store_read (store_part m) f flags in
      λ j. record {
        run = (e j).run;
        database = (e j).database;
        mirror = record {
          rows = (e j).rows;
          n = (e j).number;
          top = (ap (λ (b : List ℕ). value (take 4 b)) read_flags ∙ value_big_fits 4 m.mirror.top t) j;
          heard = (ap (λ (b : List ℕ). eqb (get_or b 4 0) 1) read_flags ∙ bit_read m.mirror.heard) j;
          whole = (ap (λ (b : List ℕ). eqb (get_or b 5 0) 1) read_flags ∙ bit_read m.mirror.whole) j;
        };
      }

-- ── good order ──
-- a state that an area gives back, where a test of it passes, is the area's state
module _ {S : Type 0} (encode : S → List ℕ) (decode : List ℕ → S) (good : S → Bool) where
  state_some : (s : S) → decode (encode s) ≡ s → good s ≡ true → state_of encode decode good (encode s) ≡ Some s
  state_some s e g = rw (e, bytes_self (encode s), g, state_of) (ap Some e)

  state_is : (a : List ℕ) (s : S) → state_of encode decode good a ≡ Some s → (encode s ≡ a) × (good s ≡ true)
  state_is a s h = split (eq_bytes (encode (decode a)) a && good (decode a))
      (λ q.
      let p : decode a ≡ s = cc in
      (rw (← p) (bytes_same (encode (decode a)) a (and_l (eq_bytes (encode (decode a)) a) (good (decode a)) q)), rw (← p) (and_r (eq_bytes (encode (decode a)) a) (good (decode a)) q)))
      (λ q. absurd (none_some s (rw (q, state_of) at h)))
    where
      none_some : (x : S) → None ≡ Some x → ⊥
      none_some x e = let z : ◌≡◌ {A = ℕ} 0 1 = cc in omega arith

good_fits : (st : Store) → store_good st ≡ true → Fits st
unfolding store_good
good_fits st h =
    let p = and_l (every (head_tests st) && rows_pass meets st.database.tables st.rows) (lawful st.database.tables st.rows) h in
    pass_fits st (and_l (every (head_tests st)) (rows_pass meets st.database.tables st.rows) p)
    (meets_pass st.database.tables st.rows (and_r (every (head_tests st)) (rows_pass meets st.database.tables st.rows) p))

-- the encoding of a store in good order is in good order, and is that store's area
pub store_of_encode : (st : Store) → store_good st ≡ true → store_of (encode_store st) ≡ Some st
unfolding store_of
store_of_encode st h = state_some encode_store decode_store store_good st (ap decode_store (sym (append-nil (encode_store st))) ∙ store_read st (good_fits st h) []) h

-- an area in good order is the encoding of its store
pub store_of_is : (a : List ℕ) (st : Store) → store_of a ≡ Some st → (encode_store st ≡ a) × (store_good st ≡ true)
unfolding store_of
store_of_is a st h = state_is encode_store decode_store store_good a st h

pub store_of_length : (a : List ℕ) (st : Store) → store_of a ≡ Some st → length a ≡ store_bytes
store_of_length a st h = let p = store_of_is a st h in ap length (sym p.0) ∙ store_length st (good_fits st p.1)

module _ (m : MirrorState) (h : mirror_good m ≡ true) where
  mirror_head : (every (head_tests (store_part m)) && rows_pass canonical_for m.database.tables m.mirror.rows) ≡ true
  unfolding mirror_good
  mirror_head = and_l (every (head_tests (store_part m)) && rows_pass canonical_for m.database.tables m.mirror.rows) (every (mirror_tests m.mirror)) h

  mirror_fits : Fits (store_part m)
  mirror_fits =
      pass_fits (store_part m) (and_l (every (head_tests (store_part m))) (rows_pass canonical_for m.database.tables m.mirror.rows) mirror_head)
      (and_r (every (head_tests (store_part m))) (rows_pass canonical_for m.database.tables m.mirror.rows) mirror_head)

  mirror_top : m.mirror.top < 256 ^ 4
  unfolding mirror_good
  mirror_top =
      ltb-true m.mirror.top (256 ^ 4)
      (parts (mirror_tests m.mirror) (and_r (every (head_tests (store_part m)) && rows_pass canonical_for m.database.tables m.mirror.rows) (every (mirror_tests m.mirror)) h)).0

  pub mirror_of_encode : mirror_of (encode_mirror m) ≡ Some m
  unfolding mirror_of
  mirror_of_encode = state_some encode_mirror decode_mirror mirror_good m (mirror_read m mirror_fits mirror_top) h

pub mirror_of_is : (a : List ℕ) (m : MirrorState) → mirror_of a ≡ Some m → (encode_mirror m ≡ a) × (mirror_good m ≡ true)
unfolding mirror_of
mirror_of_is a m h = state_is encode_mirror decode_mirror mirror_good a m h

pub mirror_of_length : (a : List ℕ) (m : MirrorState) → mirror_of a ≡ Some m → length a ≡ mirror_bytes
mirror_of_length a m h = let p = mirror_of_is a m h in ap length (sym p.0) ∙ mirror_length m (mirror_fits m p.1)
