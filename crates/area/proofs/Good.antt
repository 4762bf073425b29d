-- An area's part passes its tests just where it is the encoding of a store whose rows pass theirs. Assumes nothing.
use mathlib.Core.Path.{◌≡◌, refl, sym, ap, ◌∙◌}
use mathlib.Core.Bool.{true, ◌&&◌}
use mathlib.Core.List.{List, [], ◌∷◌, ◌++◌, map, append_assoc}
use Prim.Native.Nat.{ℕ, zero, suc, ◌+◌, ◌-◌, ◌*◌, ◌≤◌}
use native.Mathlib.Omega.{arith}
use borrow.Author.Tests.{leb-true, le-leb}
use lib.Dec.{eqb, leb}
use lib.ListN.{length, take, drop, replicate, length-drop, length-append, length-replicate}
use lib.Seq.{drop-drop, take_at, drop_at, take_all, length-take-le}
use Rattle.model.specs.Limits.{rows_offset, store_bytes}
use Rattle.model.specs.Octets.{part}
use Rattle.model.specs.Base.{all, flat}
use Rattle.model.specs.Schema.{Schema, columns_of}
use Rattle.model.specs.Catalog as packed
use Rattle.model.specs.Value.{zeros, canonical_for}
use Rattle.model.specs.Rows.{Row}
use Rattle.model.specs.Records.{cut}
use Rattle.model.specs.Areas.{row_cells, row_from, rows_from, rows_bytes, Store, encode_store, entries_in, database_in, decode_store, ascends, distinct_ids, row_passes, rows_pass}
use Rattle.inner.specs.Working.{working, table_in, TidyRow, Tidy}
use Rattle.model.proofs.Tests.{and_l, and_r, whole, parts}
use Rattle.model.proofs.Lists.{all_head, all_tail, all_take, all_drop, all_cons, all_same}
use Rattle.model.proofs.Octets.{octet}
use Rattle.model.proofs.Accepted.{narrow}
use Rattle.model.proofs.Lengths.{narrow_at}
use Rattle.model.proofs.Areas.{Sized, AllSized, Fits, row_read, row_cut, row_length, rows_length, read_count, read_rest}
use Rattle.area.specs.Layout.{rows_in, tidy_from, row_good, rows_good, row_count, rest_zero, part_good}
use Rattle.area.proofs.Copies.{rows_length as count_is}
use Rattle.area.proofs.Tidied.{Cells, tidy_of, of_tidy}
use Rattle.area.proofs.Whole.{rows_are, rows_count, store_back}

-- ── what passes is a store ──
cells_cut : (n : ℕ) (b : List ℕ) → 25 * n ≤ length b → Cells (cut n b)
cells_cut zero b h = tt
cells_cut (suc n) b h = (length-take-le 25 b (omega arith), cells_cut n (drop 25 b) (omega (arith, length-drop 25 b)))

module _ (schema : List (List ℕ)) (slim : narrow (packed.packed_tables schema) ≡ true) where
  abbrev s : Schema
  s = packed.packed_tables schema

  good_row : (r : List (List ℕ)) → row_good schema r ≡ true → (row_passes canonical_for s (row_from s r) ≡ true) × (tidy_from (length (columns_of s (table_in r))) r ≡ true)
  unfolding row_good
  good_row r h = (and_l (row_passes canonical_for s (row_from s r)) (tidy_from (length (columns_of s (table_in r))) r) h, and_r (row_passes canonical_for s (row_from s r)) (tidy_from (length (columns_of s (table_in r))) r) h)

  rows_tidy : (n : ℕ) (b : List ℕ) → 625 * n ≤ length b → all octet b ≡ true → all (row_good schema) (rows_in n b) ≡ true → Tidy s (rows_in n b)
  rows_tidy zero b h o g = tt
  rows_tidy (suc n) b h o g = (
    tidy_of s (cut 25 b) (narrow_at s (table_in (cut 25 b)) slim) refl (cells_cut 25 b (omega arith)) (all_take octet 25 b o) (good_row (cut 25 b) (all_head (row_good schema) (cut 25 b) (rows_in n (drop 625 b)) g)).1,
    rows_tidy n (drop 625 b) (omega (arith, length-drop 625 b)) (all_drop octet 625 b o) (all_tail (row_good schema) (cut 25 b) (rows_in n (drop 625 b)) g),
  )

  rows_pass_lem : (n : ℕ) (b : List ℕ) → all (row_good schema) (rows_in n b) ≡ true → all (row_passes canonical_for s) (rows_from s n b) ≡ true
  rows_pass_lem zero b g = refl
  rows_pass_lem (suc n) b g =
      all_cons (row_passes canonical_for s) (row_from s (cut 25 b)) (rows_from s n (drop 625 b)) (good_row (cut 25 b) (all_head (row_good schema) (cut 25 b) (rows_in n (drop 625 b)) g)).0
      (rows_pass_lem n (drop 625 b) (all_tail (row_good schema) (cut 25 b) (rows_in n (drop 625 b)) g))

-- what a part that passes holds
pub record Holds (a : List ℕ) : Type 0 where
  pub encoded : encode_store (decode_store a) ≡ take store_bytes a
  pub pass : rows_pass canonical_for (database_in a).tables (decode_store a).rows ≡ true
  pub few : row_count a ≤ 32
  pub tidy : Tidy (database_in a).tables (rows_in (row_count a) (drop rows_offset a))
  pub rows : (decode_store a).rows ≡ map (row_from (database_in a).tables) (rows_in (row_count a) (drop rows_offset a))

module _ (schema : List (List ℕ)) (a : List ℕ) (size : store_bytes ≤ length a) (bytes : all octet a ≡ true) (same : packed.packed_tables schema ≡ (database_in a).tables) (written : packed.catalog_of (database_in a) ≡ entries_in a) (slim : narrow (packed.packed_tables schema) ≡ true) where
  abbrev n : ℕ
  n = row_count a

  abbrev b : List ℕ
  b = drop rows_offset a

  pub part_holds : part_good schema a ≡ true → Holds a
  unfolding part_good rest_zero rows_good working decode_store rows_pass
  part_holds h =
      let few : n ≤ 32 = leb-true n 32 (and_l (leb n 32) _ h) in
      let y = and_r (leb n 32) _ h in
      let z = and_l (rest_zero a) _ y in
      let g = and_r (rest_zero a) _ y in
      let t = take_all n (rows_in n b) (omega (arith, count_is n b)) in
      let each : all (row_good schema) (rows_in n b) ≡ true = ap (all (row_good schema)) (sym t) ∙ and_l (all (row_good schema) (take n (rows_in n b))) _ g in
      let order = and_r (all (row_good schema) (take n (rows_in n b))) _ g in
      let w = ap (map (row_from (packed.packed_tables schema))) t ∙ sym (rows_are (packed.packed_tables schema) n b) in
      let up : ascends (rows_from (packed.packed_tables schema) n b) ≡ true = ap ascends (sym w) ∙ and_l (ascends (working (packed.packed_tables schema) n (rows_in n b))) _ order in
      let apart : distinct_ids (rows_from (packed.packed_tables schema) n b) ≡ true = ap distinct_ids (sym w) ∙ and_r (ascends (working (packed.packed_tables schema) n (rows_in n b))) _ order in
      let tidy : Tidy (database_in a).tables (rows_in n b) = rw same at (rows_tidy schema slim n b (omega (arith, length-drop rows_offset a)) (all_drop octet rows_offset a bytes) each) in
      record {
        encoded = store_back a size bytes few written z tidy;
        pass = rw (← same) (whole (leb (length (rows_from (packed.packed_tables schema) n b)) 32 ∷ ascends (rows_from (packed.packed_tables schema) n b) ∷ distinct_ids (rows_from (packed.packed_tables schema) n b) ∷ all (row_passes canonical_for (packed.packed_tables schema)) (rows_from (packed.packed_tables schema) n b) ∷ []) (ap (λ (k : ℕ). leb k 32) (rows_count (packed.packed_tables schema) n b) ∙ le-leb n 32 few, (up, (apart, (rows_pass_lem schema slim n b each, tt)))));
        few = few;
        tidy = tidy;
        rows = rows_are (database_in a).tables n b;
      }

-- ── a store passes ──
tidied : (s : Schema) (r : Row) → Sized s r → TidyRow s (row_cells r)
unfolding TidyRow
tidied s r z = ap row_cells (row_read s r z)

module _ (schema : List (List ℕ)) (slim : narrow (packed.packed_tables schema) ≡ true) where
  abbrev q : Schema
  q = packed.packed_tables schema

  -- the bytes of one row, cut into cells again
  row_passes_lem : (r : Row) (rest : List ℕ) → Sized q r → all octet (flat (row_cells r) ++ rest) ≡ true → row_passes canonical_for q r ≡ true → row_good schema (cut 25 (flat (row_cells r) ++ rest)) ≡ true
  unfolding row_good
  row_passes_lem r rest z o h =
      let x = flat (row_cells r) ++ rest in
      let e = row_cut q r z rest in
      let l : 25 * 25 ≤ length x = omega (arith, length-append (flat (row_cells r)) rest, row_length q r z) in
      let t : TidyRow q (cut 25 x) = tidy_row e in
      rw (ap (row_from q) e ∙ row_read q r z, h, of_tidy q (cut 25 x) (narrow_at q (table_in (cut 25 x)) slim) refl (cells_cut 25 x l) (all_take octet 25 x o) t)
    where
      tidy_row : cut 25 (flat (row_cells r) ++ rest) ≡ row_cells r → TidyRow q (cut 25 (flat (row_cells r) ++ rest))
      tidy_row e = rw e (tidied q r z)

  rows_good_lem : (rows : List Row) (rest : List ℕ) → AllSized q rows → all octet (rows_bytes rows ++ rest) ≡ true → all (row_passes canonical_for q) rows ≡ true
      → (all (row_good schema) (rows_in (length rows) (rows_bytes rows ++ rest)) ≡ true) × (map (row_from q) (rows_in (length rows) (rows_bytes rows ++ rest)) ≡ rows)
  rows_good_lem [] rest z o h = (refl, refl)
  rows_good_lem (r ∷ rows) rest z o h =
      let x = rows_bytes rows ++ rest in
      let e : rows_bytes (r ∷ rows) ++ rest ≡ flat (row_cells r) ++ x = append_assoc (flat (row_cells r)) (rows_bytes rows) rest in
      let o2 : all octet (flat (row_cells r) ++ x) ≡ true = ap (all octet) (sym e) ∙ o in
      let d : drop 625 (flat (row_cells r) ++ x) ≡ x = drop_at (flat (row_cells r)) x 625 (row_length q r z.0) in
      let o3 : all octet x ≡ true = ap (all octet) (sym d) ∙ all_drop octet 625 (flat (row_cells r) ++ x) o2 in
      let i = rows_good_lem rows rest z.1 o3 (all_tail (row_passes canonical_for q) r rows h) in
      let f : rows_in (suc (length rows)) (rows_bytes (r ∷ rows) ++ rest) ≡ cut 25 (flat (row_cells r) ++ x) ∷ rows_in (length rows) x =
      ap (rows_in (suc (length rows))) e ∙ ap (λ (l : List ℕ). cut 25 (flat (row_cells r) ++ x) ∷ rows_in (length rows) l) d in (
        ap (all (row_good schema)) f ∙ all_cons (row_good schema) (cut 25 (flat (row_cells r) ++ x)) (rows_in (length rows) x) (row_passes_lem r x z.0 o2 (all_head (row_passes canonical_for q) r rows h)) i.0,
        ap (map (row_from q)) f ∙ (λ j. (ap (row_from q) (row_cut q r z.0 x) ∙ row_read q r z.0) j ∷ i.1 j),
      )

module _ (st : Store) (tail : List ℕ) (f : Fits st) where
  abbrev area : List ℕ
  area = encode_store st ++ tail

  abbrev count : ℕ
  count = length st.rows

  zeros_zero : (k : ℕ) → zeros (replicate k 0) ≡ true
  zeros_zero k = all_same (λ (x : ℕ). eqb x 0) k 0 refl

  rows_rest : zeros (part (rows_offset + 625 * count) (625 * (32 - count)) area) ≡ true
  rows_rest =
      let z : List ℕ = replicate (625 * (32 - count)) 0 in
      ap zeros
      (ap (take (625 * (32 - count)))
      (sym (drop-drop (625 * count) rows_offset area) ∙ ap (drop (625 * count)) (read_rest st f tail) ∙ drop_at (rows_bytes st.rows) (z ++ tail) (625 * count) (rows_length st.database.tables st.rows f.rows))
      ∙ take_at z tail (625 * (32 - count)) (length-replicate (625 * (32 - count)) 0))
      ∙ zeros_zero (625 * (32 - count))

  rest_is : rest_zero area ≡ true
  unfolding rest_zero
  rest_is = (λ j. zeros (part (rows_offset + 625 * read_count st f tail j) (625 * (32 - read_count st f tail j)) area)) ∙ rows_rest

  module _ (schema : List (List ℕ)) (slim : narrow (packed.packed_tables schema) ≡ true) (same : packed.packed_tables schema ≡ st.database.tables) (bytes : all octet area ≡ true)
      (pass : rows_pass canonical_for (packed.packed_tables schema) st.rows ≡ true) where
    rows_are_good : rows_good schema count (rows_in count (drop rows_offset area)) ≡ true
    unfolding rows_good working rows_pass
    rows_are_good =
        let d = packed.packed_tables schema in
        let rest = replicate (625 * (32 - count)) 0 ++ tail in
        let p = parts (leb count 32 ∷ ascends st.rows ∷ distinct_ids st.rows ∷ all (row_passes canonical_for d) st.rows ∷ []) pass in
        let e = read_rest st f tail in
        let o : all octet (rows_bytes st.rows ++ rest) ≡ true = ap (all octet) (sym e) ∙ all_drop octet rows_offset area bytes in
        let z : AllSized d st.rows = rw same f.rows in
        let g = rows_good_lem schema slim st.rows rest z o p.1.1.1.0 in
        let l = ap (rows_in count) e in
        let t : take count (rows_in count (drop rows_offset area)) ≡ rows_in count (rows_bytes st.rows ++ rest) = take_all count (rows_in count (drop rows_offset area)) (omega (arith, count_is count (drop rows_offset area))) ∙ l in
        (λ j. all (row_good schema) (t j) && (ascends (map (row_from d) (t j)) && distinct_ids (map (row_from d) (t j))))
        ∙ (λ j. g.0 j && (ascends (g.1 j) && distinct_ids (g.1 j)))
        ∙ (λ j. p.1.0 j && p.1.1.0 j)

    pub part_passes : part_good schema area ≡ true
    unfolding part_good
    part_passes =
        let n = read_count st f tail in
        (λ j. leb (n j) 32 && (rest_is j && rows_good schema (n j) (rows_in (n j) (drop rows_offset area))))
        ∙ (λ j. le-leb count 32 f.few j && rows_are_good j)
