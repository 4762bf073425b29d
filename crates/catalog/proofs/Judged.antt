-- What the judge looks at, entry by entry, is that a catalog is accepted. Assumes nothing.
use mathlib.Core.Path.{◌≡◌, refl, sym, ap, ◌∙◌}
use mathlib.Core.Bool.{Bool, true, ◌&&◌}
use mathlib.Core.List.{List, [], ◌∷◌, ◌++◌, map}
use Prim.Native.Nat.{ℕ, zero, suc, ◌+◌, ◌-◌, ◌*◌, ◌≤◌, ◌<◌}
use native.Mathlib.Omega.{arith}
use borrow.Author.Tests.{le-leb, leb-true, lt-ltb, le-ltb}
use lib.Dec.{leb}
use lib.ListN.{length, get_or, take, drop, replicate, take-append-drop, drop_of_length-le, length-drop, length-append, length-map, length-replicate}
use lib.Seq.{drop-cons, drop-drop, take_at, drop_at, take-add, length-take-le}
use Rattle.model.specs.Octets.{big}
use Rattle.model.specs.Base.{all, distinct, eq_lists, is_some, flat}
use Rattle.model.specs.Schema.{Column, Table}
use Rattle.model.specs.SchemaText.{is_id}
use Rattle.model.specs.Sane.{max_rows_sane, sane_column, sane_index, table_sane, sane_table, database_sane, sane}
use Rattle.model.specs.Catalog.{column_place, table_count, entry_name, column_from, index_bytes, number_or0, indexes_from, max_rows_from, name_bytes, bit, is_set, table_from, tables_from, database_from, column_entry, table_entry, database_entry, blank_entry, in_room, column_entries, catalog_of}
use Rattle.model.proofs.Tests.{Trues, and_l, and_r, parts, whole, bytes_same, lists_same, lists_self}
use Rattle.model.proofs.Lists.{all_head, all_tail, all_cons, all_same}
use Rattle.model.proofs.Catalogs.{width_read, t_narrow}
use Rattle.catalog.specs.Accepted.{is_accepted}
use Rattle.catalog.specs.Judging.{is_column, head_bytes, head_tests, is_head, database_tests, is_database, is_blank, is_table, is_unused, table_fine, tables_fine, judged}
use Rattle.catalog.proofs.Laws.{tables_length}
use Rattle.catalog.proofs.Columns.{both, same_bytes}

-- ── entries that are not in use ──
blanks_are : (l : List (List ℕ)) → all is_blank l ≡ true → replicate (length l) blank_entry ≡ l
blanks_are [] h = refl
blanks_are (a ∷ l) h = λ j. bytes_same blank_entry a (all_head is_blank a l h) j ∷ blanks_are l (all_tail is_blank a l h) j

blanks_all : (n : ℕ) → all is_blank (replicate n blank_entry) ≡ true
blanks_all n = all_same is_blank n blank_entry refl

-- ── columns ──
module _ (n : ℕ) where
  columns_to : (x : List (List ℕ)) → all (is_column n) x ≡ true → (map column_entry (map column_from x) ≡ x) × (all (sane_column n) (map column_from x) ≡ true)
  unfolding is_column
  columns_to [] h = (refl, refl)
  columns_to (e ∷ x) h =
      let p = all_head (is_column n) e x h in
      let r = columns_to x (all_tail (is_column n) e x h) in
      let s = bytes_same (column_entry (column_from e)) e (and_r (sane_column n (column_from e)) _ p) in (
        λ j. s j ∷ r.0 j,
        all_cons (sane_column n) (column_from e) (map column_from x) (and_l (sane_column n (column_from e)) _ p) r.1,
      )

  one : (a : List ℕ) → column_entry (column_from a) ≡ a → sane_column n (column_from a) ≡ true → is_column n a ≡ true
  unfolding is_column
  one a s k = rw (k, same_bytes s)

  columns_from_lem : (x : List (List ℕ)) → map column_entry (map column_from x) ≡ x → all (sane_column n) (map column_from x) ≡ true → all (is_column n) x ≡ true
  columns_from_lem [] e h = refl
  columns_from_lem (a ∷ x) e h =
      all_cons (is_column n) a x
      (one a (ap (λ (l : List (List ℕ)). get_or l 0 []) e) (all_head (sane_column n) (column_from a) (map column_from x) h))
      (columns_from_lem x (ap (drop 1) e) (all_tail (sane_column n) (column_from a) (map column_from x) h))

names_of : (x : List (List ℕ)) → map (λ (c : Column). c.name) (map column_from x) ≡ map entry_name x
names_of [] = refl
names_of (e ∷ x) = ap (λ (l : List (List ℕ)). entry_name e ∷ l) (names_of x)

-- the bytes of a table's entry but for its width
abbrev head_with : List ℕ → ℕ → List ℕ
head_with e m =
    name_bytes (entry_name e)
    ++ (m ∷ bit (is_set e 26) ∷ bit (is_some (max_rows_from e)) ∷ big 8 (number_or0 (max_rows_from e))
    ++ (length (indexes_from e) ∷ (flat (map index_bytes (indexes_from e)) ++ replicate (4 * (2 - length (indexes_from e))) 0) ++ replicate 3 0))

module _ (cells : List (List ℕ)) (size : length cells ≡ 29) (n : ℕ) where
  -- ── one table ──
  module _ (i : ℕ) (l : i < 4) where
    abbrev e : List ℕ
    e = get_or cells (1 + i) []

    abbrev w : ℕ
    w = get_or e 25 0

    abbrev from : List (List ℕ)
    from = drop (5 + 6 * i) cells

    abbrev x : List (List ℕ)
    x = take w from

    abbrev t : Table
    t = table_from cells i

    from_length : 6 ≤ length from
    from_length = omega (arith, length-drop (5 + 6 * i) cells)

    columns_are : t.columns ≡ map column_from x
    unfolding table_from
    columns_are = let b : 5 + 6 * i + 0 ≡ 5 + 6 * i = omega arith in ap (λ (k : ℕ). map column_from (take w (drop k cells))) b

    module _ (narrow : w ≤ 6) where
      x_length : length x ≡ w
      x_length = length-take-le w from (omega (arith, from_length))

      columns_length : length t.columns ≡ w
      columns_length = ap length columns_are ∙ length-map x column_from ∙ x_length

      -- the six entries in their two parts
      behind : drop w from ≡ drop (column_place i w) cells
      behind = drop-drop w (5 + 6 * i) cells

      parts_are : take 6 from ≡ x ++ take (6 - w) (drop (column_place i w) cells)
      parts_are =
          let k : w + (6 - w) ≡ 6 = omega arith in
          ap (λ (m : ℕ). take m from) (sym k) ∙ take-add w (6 - w) from ∙ ap (λ (m : List (List ℕ)). x ++ take (6 - w) m) behind

      blank_length : length (take (6 - w) (drop (column_place i w) cells)) ≡ 6 - w
      blank_length = length-take-le (6 - w) (drop (column_place i w) cells) (omega (arith, length-drop (column_place i w) cells))

      head_bytes_lem : table_entry t ≡ head_bytes e
      unfolding table_from
      head_bytes_lem = ap (head_with e) columns_length

    record Used : Type 0 where
      entry : table_entry t ≡ e
      room : in_room 6 (map column_entry t.columns) ≡ take 6 from
      kept : sane_table n t ≡ true

    kept_by : Trues (head_tests e) → length t.columns ≡ w → all (sane_column n) t.columns ≡ true → distinct (map (λ (c : Column). c.name) t.columns) ≡ true → sane_table n t ≡ true
    unfolding sane_table table_from
    kept_by p cl sc di =
        whole (table_sane n t)
        (p.0, (ap (λ (m : ℕ). leb m 6) cl ∙ p.1.0, (sc, (p.1.1.0, (ap (λ (m : ℕ). all (sane_index m) (indexes_from e)) cl ∙ p.1.1.1.0, (di, (p.1.1.1.1.0, tt)))))))

    used_to : is_table n cells i ≡ true → Used
    unfolding is_table is_head
    used_to h =
        let h1 = and_r (is_head e) _ h in
        let h2 = and_r (all (is_column n) x) _ h1 in
        let p = parts (head_tests e) (and_l (is_head e) _ h) in
        let nw = leb-true w 6 p.1.0 in
        let cs = columns_to n x (and_l (all (is_column n) x) _ h1) in
        let z = take (6 - w) (drop (column_place i w) cells) in
        let bl : replicate (6 - w) blank_entry ≡ z = ap (λ (m : ℕ). replicate m blank_entry) (sym (blank_length nw)) ∙ blanks_are z (and_r (distinct (map entry_name x)) _ h2) in
        let ce : map column_entry t.columns ≡ x = ap (map column_entry) columns_are ∙ cs.0 in
        let cl = columns_length nw in
        record {
          entry = head_bytes_lem nw ∙ bytes_same (head_bytes e) e p.1.1.1.1.1.0;
          room = ap (in_room 6) ce ∙ ap (λ (m : ℕ). x ++ replicate (6 - m) blank_entry) (x_length nw) ∙ ap (λ (m : List (List ℕ)). x ++ m) bl ∙ sym (parts_are nw);
          kept = kept_by p cl (ap (all (sane_column n)) columns_are ∙ cs.1) (ap (λ (m : List Column). distinct (map (λ (c : Column). c.name) m)) columns_are ∙ ap distinct (names_of x) ∙ and_l (distinct (map entry_name x)) _ h2);
        }

    abbrev Kept : Type 0
    Kept = (is_id (entry_name e) ≡ true) × (leb (length (indexes_from e)) 2 ≡ true) × (all (sane_index (length t.columns)) (indexes_from e) ≡ true) × (max_rows_sane (max_rows_from e) ≡ true) × (all (sane_column n) t.columns ≡ true) × (distinct (map (λ (c : Column). c.name) t.columns) ≡ true)

    kept_parts : sane_table n t ≡ true → Kept
    unfolding sane_table table_from
    kept_parts h =
        let p = parts (table_sane n t) h in
        (p.0, p.1.1.1.0, p.1.1.1.1.0, p.1.1.1.1.1.1.0, p.1.1.0, p.1.1.1.1.1.0)

    go : Used → Kept → is_table n cells i ≡ true
    unfolding is_table is_head
    go u p =
        let wl : length t.columns ≡ w = sym (width_read n t u.kept) ∙ ap (λ (m : List ℕ). get_or m 25 0) u.entry in
        let nw : w ≤ 6 = omega (arith, wl, t_narrow n t u.kept) in
        let same : head_bytes e ≡ e = sym (head_bytes_lem nw) ∙ u.entry in
        let hd : is_head e ≡ true = whole (head_tests e) (p.0, (le-leb w 6 nw, (p.1, (ap (λ (m : ℕ). all (sane_index m) (indexes_from e)) (sym wl) ∙ p.2, (p.3, (same_bytes same, tt)))))) in
        let y = map column_entry (map column_from x) in
        let z = take (6 - w) (drop (column_place i w) cells) in
        let yl : length y ≡ w = length-map (map column_from x) column_entry ∙ length-map x column_from ∙ x_length nw in
        let q : y ++ replicate (6 - length y) blank_entry ≡ x ++ z = ap (λ (m : List Column). in_room 6 (map column_entry m)) (sym columns_are) ∙ u.room ∙ parts_are nw in
        let s : y ≡ x = sym (take_at y (replicate (6 - length y) blank_entry) w yl) ∙ ap (take w) q ∙ take_at x z w (x_length nw) in
        let b : replicate (6 - length y) blank_entry ≡ z = sym (drop_at y (replicate (6 - length y) blank_entry) w yl) ∙ ap (drop w) q ∙ drop_at x z w (x_length nw) in
        let cs = columns_from_lem n x s (ap (all (sane_column n)) (sym columns_are) ∙ p.4) in
        let di : distinct (map entry_name x) ≡ true = ap distinct (sym (names_of x)) ∙ ap (λ (m : List Column). distinct (map (λ (c : Column). c.name) m)) (sym columns_are) ∙ p.5 in
        rw (hd, cs, di) (ap (all is_blank) (sym b) ∙ blanks_all (6 - length y))

    used_from : Used → is_table n cells i ≡ true
    used_from u = go u (kept_parts u.kept)

    -- ── one that is not in use ──
    record Free : Type 0 where
      entry : blank_entry ≡ e
      room : replicate 6 blank_entry ≡ take 6 from

    plain_from : drop (column_place i 0) cells ≡ from
    plain_from = let b : 5 + 6 * i + 0 ≡ 5 + 6 * i = omega arith in ap (λ (k : ℕ). drop k cells) b

    unused_to : is_unused cells i ≡ true → Free
    unfolding is_unused
    unused_to h =
        let r = and_r (is_blank e) _ h in
        record {
          entry = bytes_same blank_entry e (and_l (is_blank e) _ h);
          room = ap (λ (m : ℕ). replicate m blank_entry) (sym (length-take-le 6 from from_length)) ∙ blanks_are (take 6 from) (ap (λ (m : List (List ℕ)). all is_blank (take 6 m)) (sym plain_from) ∙ r);
        }

    unused_from : Free → is_unused cells i ≡ true
    unfolding is_unused
    unused_from f = rw (same_bytes f.entry) (ap (λ (m : List (List ℕ)). all is_blank (take 6 m)) plain_from ∙ ap (all is_blank) (sym f.room) ∙ blanks_all 6)

    -- ── where it stands ──
    pub head_more : (k : ℕ) → take (suc k) (drop (1 + i) cells) ≡ e ∷ take k (drop (1 + suc i) cells)
    head_more k =
        let a : suc (1 + i) ≡ 1 + suc i = omega arith in
        ap (take (suc k)) (drop-cons cells (1 + i) [] (omega arith) ∙ ap (λ (m : ℕ). e ∷ drop m cells) a)

    pub room_more : from ≡ take 6 from ++ drop (5 + 6 * suc i) cells
    room_more =
        let a : 5 + 6 * i + 6 ≡ 5 + 6 * suc i = omega arith in
        sym (take-append-drop 6 from) ∙ ap (λ (m : List (List ℕ)). take 6 from ++ m) (drop-drop 6 (5 + 6 * i) cells ∙ ap (λ (k : ℕ). drop k cells) a)

room_cons : (k : ℕ) (a : List ℕ) (l : List (List ℕ)) → in_room (suc k) (a ∷ l) ≡ a ∷ in_room k l
room_cons k a l = let q : suc k - suc (length l) ≡ k - length l = omega arith in ap (λ (m : ℕ). a ∷ l ++ replicate m blank_entry) q

room_nil : (k : ℕ) → in_room (suc k) [] ≡ blank_entry ∷ in_room k []
room_nil k =
    let q : suc k - 0 ≡ suc (k - 0) = omega arith in
    ap (λ (m : ℕ). replicate m blank_entry) q

room_length : (k : ℕ) (l : List (List ℕ)) → length l ≤ k → length (in_room k l) ≡ k
room_length k l h = simp (length-append, length-replicate) (omega arith)

-- ── all tables ──
module _ (cells : List (List ℕ)) (size : length cells ≡ 29) (n : ℕ) where
  fine_used : (i : ℕ) → i < n → table_fine n cells i ≡ is_table n cells i
  unfolding table_fine
  fine_used i l = rw (table_fine, lt-ltb i n l)

  fine_free : (i : ℕ) → n ≤ i → table_fine n cells i ≡ is_unused cells i
  unfolding table_fine
  fine_free i l = rw (table_fine, le-ltb i n l)

  -- k entries of tables from number i on, m of them in use, and the entries of their columns
  record Laid (i k m : ℕ) : Type 0 where
    heads : in_room k (map table_entry (tables_from cells i m)) ≡ take k (drop (1 + i) cells)
    columns : column_entries k (tables_from cells i m) ≡ drop (5 + 6 * i) cells
    kept : all (sane_table n) (tables_from cells i m) ≡ true

  laid_to : (i k m : ℕ) → i + k ≡ 4 → m ≤ k → m ≡ n - i → tables_fine n cells i k ≡ true → Laid i k m
  laid_to i zero zero f g q h =
      let s : length cells ≤ 5 + 6 * i = omega arith in
      record { heads = refl; columns = sym (drop_of_length-le cells s); kept = refl }
  laid_to i zero (suc m) f g q h = absurd (omega arith)
  laid_to i (suc k) zero f g q h =
      let l : i < 4 = omega arith in
      let u = unused_to cells size n i l (sym (fine_free i (omega arith)) ∙ and_l (table_fine n cells i) _ h) in
      let r = laid_to (suc i) k zero (omega arith) (omega arith) (omega arith) (and_r (table_fine n cells i) _ h) in
      record {
        heads = room_nil k ∙ (λ j. u.entry j ∷ r.heads j) ∙ sym (head_more cells size n i l k);
        columns = (λ j. u.room j ++ r.columns j) ∙ sym (room_more cells size n i l);
        kept = refl;
      }
  laid_to i (suc k) (suc m) f g q h =
      let l : i < 4 = omega arith in
      let u = used_to cells size n i l (sym (fine_used i (omega arith)) ∙ and_l (table_fine n cells i) _ h) in
      let r = laid_to (suc i) k m (omega arith) (omega arith) (omega arith) (and_r (table_fine n cells i) _ h) in
      record {
        heads = room_cons k (table_entry (table_from cells i)) (map table_entry (tables_from cells (suc i) m)) ∙ (λ j. u.entry j ∷ r.heads j) ∙ sym (head_more cells size n i l k);
        columns = (λ j. u.room j ++ r.columns j) ∙ sym (room_more cells size n i l);
        kept = all_cons (sane_table n) (table_from cells i) (tables_from cells (suc i) m) u.kept r.kept;
      }

  -- a room of six and what follows it
  room_front : (i : ℕ) → i < 4 → (a b : List (List ℕ)) → length a ≡ 6 → a ++ b ≡ drop (5 + 6 * i) cells → (a ≡ take 6 (drop (5 + 6 * i) cells)) × (b ≡ drop (5 + 6 * suc i) cells)
  room_front i l a b s q =
      let c = q ∙ room_more cells size n i l in
      let z = take 6 (drop (5 + 6 * i) cells) in
      let y = drop (5 + 6 * suc i) cells in
      let zl = length-take-le 6 (drop (5 + 6 * i) cells) (from_length cells size n i l) in
      (sym (take_at a b 6 s) ∙ ap (take 6) c ∙ take_at z y 6 zl, sym (drop_at a b 6 s) ∙ ap (drop 6) c ∙ drop_at z y 6 zl)

  laid_from : (i k m : ℕ) → i + k ≡ 4 → m ≤ k → m ≡ n - i → Laid i k m → tables_fine n cells i k ≡ true
  laid_from i zero m f g q r = refl
  laid_from i (suc k) zero f g q r =
      let l : i < 4 = omega arith in
      let y = sym (room_nil k) ∙ r.heads ∙ head_more cells size n i l k in
      let c = room_front i l (replicate 6 blank_entry) (column_entries k []) refl r.columns in
      let a = fine_free i (omega arith) ∙ unused_from cells size n i l (record { entry = ap (λ (x : List (List ℕ)). get_or x 0 []) y; room = c.0 }) in
      rw a (laid_from (suc i) k zero (omega arith) (omega arith) (omega arith) (record { heads = ap (drop 1) y; columns = c.1; kept = refl }))
  laid_from i (suc k) (suc m) f g q r =
      let l : i < 4 = omega arith in
      let t = table_from cells i in
      let ts = tables_from cells (suc i) m in
      let st = all_head (sane_table n) t ts r.kept in
      let y = sym (room_cons k (table_entry t) (map table_entry ts)) ∙ r.heads ∙ head_more cells size n i l k in
      let c = room_front i l (in_room 6 (map column_entry t.columns)) (column_entries k ts) (room_length 6 (map column_entry t.columns) (omega (arith, length-map t.columns column_entry, t_narrow n t st))) r.columns in
      let a = fine_used i (omega arith) ∙ used_from cells size n i l (record { entry = ap (λ (x : List (List ℕ)). get_or x 0 []) y; room = c.0; kept = st }) in
      rw a (laid_from (suc i) k m (omega arith) (omega arith) (omega arith) (record { heads = ap (drop 1) y; columns = c.1; kept = all_tail (sane_table n) t ts r.kept }))

  names_tables : (i m : ℕ) → i + m ≤ 4 → map (λ (t : Table). t.name) (tables_from cells i m) ≡ map entry_name (take m (drop (1 + i) cells))
  unfolding table_from
  names_tables i zero f = refl
  names_tables i (suc m) f =
      ap (λ (l : List (List ℕ)). entry_name (get_or cells (1 + i) []) ∷ l) (names_tables (suc i) m (omega arith))
      ∙ sym (ap (map entry_name) (head_more cells size n i (omega arith) m))

-- ── the whole ──
module _ (cells : List (List ℕ)) (size : length cells ≡ 29) where
  abbrev n : ℕ
  n = table_count cells

  abbrev first : List ℕ
  first = get_or cells 0 []

  abbrev tables : List Table
  tables = tables_from cells 0 n

  count : length tables ≡ n
  count = tables_length cells 0 n

  front : first ∷ take 4 (drop 1 cells) ++ drop 5 cells ≡ cells
  front =
      ap (λ (l : List (List ℕ)). first ∷ l) (ap (λ (l : List (List ℕ)). take 4 (drop 1 cells) ++ l) (sym (drop-drop 4 1 cells)) ∙ take-append-drop 4 (drop 1 cells))
      ∙ sym (drop-cons cells 0 [] (omega arith))

  accepted_to : judged cells ≡ true → is_accepted cells ≡ true
  unfolding judged is_accepted is_database catalog_of sane
  accepted_to h =
      let d = database_from cells in
      let h1 = and_r (is_database first) _ h in
      let p = parts (database_tests first) (and_l (is_database first) _ h) in
      let few = leb-true n 4 p.1.0 in
      let r = laid_to cells size n 0 4 n refl few (omega arith) (and_l (tables_fine n cells 0 4) _ h1) in
      let e : database_entry d ≡ first =
      ap (λ (m : ℕ). name_bytes (entry_name first) ++ m ∷ replicate 22 0) count ∙ bytes_same (name_bytes (entry_name first) ++ n ∷ replicate 22 0) first p.1.1.0 in
      let same : catalog_of d ≡ cells = (λ j. e j ∷ r.heads j ++ r.columns j) ∙ front in
      let kept : sane d ≡ true =
      whole (database_sane d)
      (p.0, (ap (λ (m : ℕ). leb m 4) count ∙ p.1.0, (ap (λ (m : ℕ). all (sane_table m) tables) count ∙ r.kept, (ap distinct (names_tables cells size n 0 n (omega (arith, few))) ∙ and_r (tables_fine n cells 0 4) _ h1, tt)))) in
      rw kept (ap (λ (b : Bool). b && true) (ap (λ (l : List (List ℕ)). eq_lists l cells) same ∙ lists_self cells))

  accepted_from : is_accepted cells ≡ true → judged cells ≡ true
  unfolding judged is_accepted is_database catalog_of sane
  accepted_from h =
      let d = database_from cells in
      let same : catalog_of d ≡ cells = lists_same (catalog_of d) cells (and_l (eq_lists (catalog_of d) cells) (sane d) h) in
      let p = parts (database_sane d) (and_r (eq_lists (catalog_of d) cells) (sane d) h) in
      let few : n ≤ 4 = omega (arith, leb-true (length tables) 4 p.1.0, count) in
      let hs = in_room 4 (map table_entry tables) in
      let cs = column_entries 4 tables in
      let hl : length hs ≡ 4 = room_length 4 (map table_entry tables) (omega (arith, length-map tables table_entry, count, few)) in
      let tail : hs ++ cs ≡ drop 1 cells = ap (drop 1) same in
      let e : database_entry d ≡ first = ap (λ (l : List (List ℕ)). get_or l 0 []) same in
      let db : is_database first ≡ true =
      whole (database_tests first) (p.0, (le-leb n 4 few, (same_bytes (ap (λ (m : ℕ). name_bytes (entry_name first) ++ m ∷ replicate 22 0) (sym count) ∙ e), tt))) in
      let r : Laid cells size n 0 4 n =
      record {
        heads = sym (take_at hs cs 4 hl) ∙ ap (take 4) tail;
        columns = sym (drop_at hs cs 4 hl) ∙ ap (drop 4) tail ∙ drop-drop 4 1 cells;
        kept = ap (λ (m : ℕ). all (sane_table m) tables) (sym count) ∙ p.1.1.0;
      } in
      let fine = laid_from cells size n 0 4 n refl few (omega arith) r in
      rw (db, fine) (ap distinct (sym (names_tables cells size n 0 n (omega (arith, few)))) ∙ p.1.1.1.0)

  pub accepted_is : judged cells ≡ is_accepted cells
  accepted_is = both (judged cells) (is_accepted cells) accepted_to accepted_from
