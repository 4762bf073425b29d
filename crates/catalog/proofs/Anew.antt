-- A catalog written anew from what its entries say, entry by entry. Assumes nothing.
use mathlib.Core.Path.{◌≡◌, refl, ap, subst, ◌∙◌}
use mathlib.Core.Bool.{Bool, true}
use mathlib.Core.List.{List, [], ◌∷◌, ◌++◌, map}
use Prim.Native.Nat.{ℕ, zero, suc, ◌+◌, ◌-◌, ◌*◌, ◌≤◌, ◌<◌}
use native.Mathlib.Omega.{arith}
use borrow.Author.Tests.{leb-true}
use lib.Dec.{leb}
use lib.ListN.{length, get_or, take, drop, replicate, length-append, length-map, length-replicate, length-drop, length-take, get_or-append}
use lib.Seq.{length-take-le, get_or-drop, get_or-take}
use Rattle.model.specs.Octets.{big}
use Rattle.model.specs.Base.{all, is_some, flat}
use Rattle.model.specs.Limits.{most_index_columns, entry_bytes}
use Rattle.model.specs.Schema.{Column, Table, Database}
use Rattle.model.specs.Catalog.{table_count, column_count, column_place, entry_name, is_set, column_from, indexes_from, max_rows_from, table_from, tables_from, database_from, name_bytes, bit, column_entry, index_bytes, number_or0, table_entry, blank_entry, in_room, column_entries, catalog_of}
use Rattle.model.specs.Sane.{column_sane, sane_column, index_sane, sane_index, table_sane, sane_table, database_sane, sane}
use Rattle.model.proofs.Tests.{and_l, and_r, parts}
use Rattle.model.proofs.Lists.{all_at}
use Rattle.model.proofs.Catalogs.{get_d_past, id_short}
use Rattle.catalog.specs.Tidied.{database_tidied, table_tidied, Readable}
use Rattle.catalog.proofs.Laws.{tables_length}

-- ── lists ──
blank_at : (k c : ℕ) → c < k → get_or (replicate k blank_entry) c [] ≡ blank_entry
blank_at zero c h = absurd (omega arith)
blank_at (suc k) zero h = refl
blank_at (suc k) (suc c) h = blank_at k c (omega arith)

-- an entry in the room for k
module _ {A : Type 0} (f : A → List ℕ) (d : A) where
  room_in : (l : List A) (k c : ℕ) → c < length l → get_or (in_room k (map f l)) c [] ≡ f (get_or l c d)
  room_in l k c h = get_or-append (map f l) (replicate (k - length (map f l)) blank_entry) [] c (omega (arith, length-map l f)) ∙ mapped l c h
    where
      mapped : (x : List A) (i : ℕ) → i < length x → get_or (map f x) i [] ≡ f (get_or x i d)
      mapped [] i g = absurd (omega arith)
      mapped (a ∷ x) zero g = refl
      mapped (a ∷ x) (suc i) g = mapped x i (omega arith)

  room_out : (l : List A) (k c : ℕ) → length l ≤ c → c < k → get_or (in_room k (map f l)) c [] ≡ blank_entry
  room_out l k c g h =
      let n : length (map f l) ≡ length l = length-map l f in
      let e : c ≡ length l + (c - length l) = omega arith in
      ap (λ (i : ℕ). get_or (in_room k (map f l)) i []) e ∙ get_d_past [] (map f l) (replicate (k - length (map f l)) blank_entry) (length l) (c - length l) n ∙ blank_at (k - length (map f l)) (c - length l) (omega (arith, n))

room_size : (k : ℕ) (l : List (List ℕ)) → length l ≤ k → length (in_room k l) ≡ k
room_size k l h = simp (length-append, length-replicate) (omega arith)

-- ── what a table's entry and a column's are in the whole ──
module _ (cells : List (List ℕ)) where
  -- a table among those from u on
  tables_at : (u m t : ℕ) (d : Table) → t < m → get_or (tables_from cells u m) t d ≡ table_from cells (u + t)
  tables_at u zero t d h = absurd (omega arith)
  tables_at u (suc m) zero d h = let e : u ≡ u + 0 = omega arith in ap (table_from cells) e
  tables_at u (suc m) (suc t) d h = let e : suc u + t ≡ u + suc t = omega arith in tables_at (suc u) m t d (omega arith) ∙ ap (table_from cells) e

  all_tables : (p : Table → Bool) (u m t : ℕ) → all p (tables_from cells u m) ≡ true → t < m → p (table_from cells (u + t)) ≡ true
  all_tables p u zero t h l = absurd (omega arith)
  all_tables p u (suc m) zero h l = let e : u + 0 ≡ u = omega arith in rw e (and_l (p (table_from cells u)) (all p (tables_from cells (suc u) m)) h)
  all_tables p u (suc m) (suc t) h l =
      let e : u + suc t ≡ suc u + t = omega arith in
      rw e (all_tables p (suc u) m t (and_r (p (table_from cells u)) (all p (tables_from cells (suc u) m)) h) (omega arith))

  -- no table has more columns than there is room for
  Narrow : ℕ → ℕ → Type 0
  Narrow u m = (t : ℕ) → t < m → length (table_from cells (u + t)).columns ≤ 6

  narrow_on : (u m : ℕ) → Narrow u (suc m) → Narrow (suc u) m
  unfolding Narrow
  narrow_on u m h t l = let e : u + suc t ≡ suc u + t = omega arith in rw (← e) (h (suc t) (omega arith))

  room_six : (t : Table) → length t.columns ≤ 6 → length (in_room 6 (map column_entry t.columns)) ≡ 6
  room_six t h = room_size 6 (map column_entry t.columns) (omega (arith, length-map t.columns column_entry))

  columns_at_lem : (k u m t c : ℕ) → Narrow u m → t < k → t < m → c < 6 → get_or (column_entries k (tables_from cells u m)) (6 * t + c) [] ≡ get_or (in_room 6 (map column_entry (table_from cells (u + t)).columns)) c []
  unfolding Narrow
  columns_at_lem zero u m t c w h l g = absurd (omega arith)
  columns_at_lem (suc k) u zero t c w h l g = absurd (omega arith)
  columns_at_lem (suc k) u (suc m) zero c w h l g =
      let e : 6 * 0 + c ≡ c = omega arith in
      let f : u ≡ u + 0 = omega arith in
      let x : length (table_from cells u).columns ≤ 6 = rw f (w 0 (omega arith)) in
      let room = in_room 6 (map column_entry (table_from cells u).columns) in
      ap (λ (i : ℕ). get_or (room ++ column_entries k (tables_from cells (suc u) m)) i []) e
      ∙ get_or-append room (column_entries k (tables_from cells (suc u) m)) [] c (omega (arith, room_six (table_from cells u) x))
      ∙ ap (λ (i : ℕ). get_or (in_room 6 (map column_entry (table_from cells i).columns)) c []) f
  columns_at_lem (suc k) u (suc m) (suc t) c w h l g =
      let e : 6 * suc t + c ≡ 6 + (6 * t + c) = omega arith in
      let f : u ≡ u + 0 = omega arith in
      let y : suc u + t ≡ u + suc t = omega arith in
      let x : length (table_from cells u).columns ≤ 6 = rw f (w 0 (omega arith)) in
      let room = in_room 6 (map column_entry (table_from cells u).columns) in
      ap (λ (i : ℕ). get_or (room ++ column_entries k (tables_from cells (suc u) m)) i []) e
      ∙ get_d_past [] room (column_entries k (tables_from cells (suc u) m)) 6 (6 * t + c) (room_six (table_from cells u) x)
      ∙ columns_at_lem k (suc u) m t c (narrow_on u m w) (omega arith) (omega arith) g
      ∙ ap (λ (i : ℕ). get_or (in_room 6 (map column_entry (table_from cells i).columns)) c []) y

  columns_none : (k u m t c : ℕ) → Narrow u m → t < k → m ≤ t → c < 6 → get_or (column_entries k (tables_from cells u m)) (6 * t + c) [] ≡ blank_entry
  unfolding Narrow
  columns_none zero u m t c w h l g = absurd (omega arith)
  columns_none (suc k) u zero zero c w h l g =
      let e : 6 * 0 + c ≡ c = omega arith in
      ap (λ (i : ℕ). get_or (replicate 6 blank_entry ++ column_entries k []) i []) e
      ∙ get_or-append (replicate 6 blank_entry) (column_entries k []) [] c g ∙ blank_at 6 c g
  columns_none (suc k) u zero (suc t) c w h l g =
      let e : 6 * suc t + c ≡ 6 + (6 * t + c) = omega arith in
      ap (λ (i : ℕ). get_or (replicate 6 blank_entry ++ column_entries k []) i []) e
      ∙ get_d_past [] (replicate 6 blank_entry) (column_entries k []) 6 (6 * t + c) refl
      ∙ columns_none k u zero t c (λ i j. absurd (omega arith)) (omega arith) (omega arith) g
  columns_none (suc k) u (suc m) zero c w h l g = absurd (omega arith)
  columns_none (suc k) u (suc m) (suc t) c w h l g =
      let e : 6 * suc t + c ≡ 6 + (6 * t + c) = omega arith in
      let f : u ≡ u + 0 = omega arith in
      let x : length (table_from cells u).columns ≤ 6 = rw f (w 0 (omega arith)) in
      let room = in_room 6 (map column_entry (table_from cells u).columns) in
      ap (λ (i : ℕ). get_or (room ++ column_entries k (tables_from cells (suc u) m)) i []) e
      ∙ get_d_past [] room (column_entries k (tables_from cells (suc u) m)) 6 (6 * t + c) (room_six (table_from cells u) x)
      ∙ columns_none k (suc u) m t c (narrow_on u m w) (omega arith) (omega arith) g

-- ── entries of a database that keeps the rules, with room for what they say ──
module _ {cells : List (List ℕ)} (r : Readable cells) where
  abbrev d : Database
  d = database_from cells

  abbrev n : ℕ
  n = table_count cells

  count : length d.tables ≡ n
  count = tables_length cells 0 n

  few : n ≤ 4
  unfolding sane
  few = omega (arith, count, leb-true (length d.tables) 4 (parts (database_sane d) r.sane).1.0)

  every_table : (t : ℕ) → t < n → sane_table (length d.tables) (table_from cells t) ≡ true
  unfolding sane
  every_table t l = let e : 0 + t ≡ t = omega arith in rw (← e) (all_tables cells (sane_table (length d.tables)) 0 n t (parts (database_sane d) r.sane).1.1.0 l)

  -- a table's columns are as many as its entry says
  width_is : (t : ℕ) → t < n → length (table_from cells t).columns ≡ column_count cells t
  unfolding table_from
  width_is t l =
      length-map (take (column_count cells t) (drop (column_place t 0) cells)) column_from
      ∙ length-take-le (column_count cells t) (drop (column_place t 0) cells) (omega (arith, length-drop (column_place t 0) cells, r.wide t (omega (arith, few)), few))

  narrow : Narrow cells 0 n
  unfolding Narrow
  narrow t l = let e : 0 + t ≡ t = omega arith in rw e (omega (arith, width_is t l, r.wide t (omega (arith, few))))

  -- the database's entry
  pub database_anew : get_or (catalog_of d) 0 [] ≡ database_tidied (get_or cells 0 [])
  unfolding catalog_of database_tidied
  database_anew = ap (λ (k : ℕ). name_bytes (entry_name (get_or cells 0 [])) ++ k ∷ replicate 22 0) count

  -- a table's
  abbrev heads : List (List ℕ)
  heads = in_room 4 (map table_entry d.tables)

  head_at : (t : ℕ) → t < 4 → get_or (catalog_of d) (1 + t) [] ≡ get_or heads t []
  unfolding catalog_of
  head_at t l =
      let s : 1 + t ≡ suc t = omega arith in
      ap (λ (k : ℕ). get_or (catalog_of d) k []) s
      ∙ get_or-append heads (column_entries 4 d.tables) [] t (omega (arith, room_size 4 (map table_entry d.tables) (omega (arith, length-map d.tables table_entry, count, few))))

  table_is : (t : ℕ) → t < n → table_entry (table_from cells t) ≡ table_tidied (get_or cells (1 + t) [])
  unfolding table_from table_tidied
  table_is t l =
      let e = get_or cells (1 + t) [] in
      ap
      (λ (k : ℕ).
      name_bytes (entry_name e)
      ++ (k ∷ bit (is_set e 26) ∷ bit (is_some (max_rows_from e)) ∷ big 8 (number_or0 (max_rows_from e))
      ++ (length (indexes_from e) ∷ (flat (map index_bytes (indexes_from e)) ++ replicate (4 * (2 - length (indexes_from e))) 0) ++ replicate 3 0)))
      (width_is t l)

  pub table_anew : (t : ℕ) → t < n → get_or (catalog_of d) (1 + t) [] ≡ table_tidied (get_or cells (1 + t) [])
  table_anew t l =
      let e : 0 + t ≡ t = omega arith in
      head_at t (omega (arith, few)) ∙ room_in table_entry (table_from cells t) d.tables 4 t (omega (arith, count)) ∙ ap table_entry (tables_at cells 0 n t (table_from cells t) l ∙ ap (table_from cells) e) ∙ table_is t l

  pub table_blank : (t : ℕ) → n ≤ t → t < 4 → get_or (catalog_of d) (1 + t) [] ≡ blank_entry
  table_blank t l g = head_at t g ∙ room_out table_entry (table_from cells t) d.tables 4 t (omega (arith, count)) g

  -- a column's
  column_place_lem : (t c : ℕ) → t < 4 → c < 6 → get_or (catalog_of d) (5 + 6 * t + c) [] ≡ get_or (column_entries 4 d.tables) (6 * t + c) []
  unfolding catalog_of
  column_place_lem t c l g =
      let s : 5 + 6 * t + c ≡ suc (4 + (6 * t + c)) = omega arith in
      ap (λ (k : ℕ). get_or (catalog_of d) k []) s
      ∙ get_d_past [] heads (column_entries 4 d.tables) 4 (6 * t + c) (room_size 4 (map table_entry d.tables) (omega (arith, length-map d.tables table_entry, count, few)))

  module _ (t c : ℕ) (l : t < n) (g : c < 6) where
    e : 0 + t ≡ t
    e = omega arith

    here : get_or (catalog_of d) (5 + 6 * t + c) [] ≡ get_or (in_room 6 (map column_entry (table_from cells t).columns)) c []
    here =
        column_place_lem t c (omega (arith, few)) g ∙ columns_at_lem cells 4 0 n t c narrow (omega (arith, few)) l g
        ∙ ap (λ (i : ℕ). get_or (in_room 6 (map column_entry (table_from cells i).columns)) c []) e

    abbrev entries : List (List ℕ)
    entries = take (column_count cells t) (drop (column_place t 0) cells)

    entries_size : length entries ≡ column_count cells t
    entries_size = length-take-le (column_count cells t) (drop (column_place t 0) cells) (omega (arith, length-drop (column_place t 0) cells, r.wide t (omega (arith, few)), few))

    column_here : c < column_count cells t → get_or entries c [] ≡ get_or cells (5 + 6 * t + c) []
    column_here k =
        let a : column_place t 0 + c ≡ 5 + 6 * t + c = omega arith in
        get_or-take (column_count cells t) (drop (column_place t 0) cells) c [] k ∙ get_or-drop (column_place t 0) cells c [] ∙ ap (λ (i : ℕ). get_or cells i []) a

    column_is : c < column_count cells t → get_or (table_from cells t).columns c (column_from []) ≡ column_from (get_or cells (5 + 6 * t + c) [])
    unfolding table_from
    column_is k = mapped entries c (omega (arith, entries_size)) ∙ ap column_from (column_here k)
      where
        mapped : (x : List (List ℕ)) (i : ℕ) → i < length x → get_or (map column_from x) i (column_from []) ≡ column_from (get_or x i [])
        mapped [] i q = absurd (omega arith)
        mapped (a ∷ x) zero q = refl
        mapped (a ∷ x) (suc i) q = mapped x i (omega arith)

    pub column_anew : c < column_count cells t → get_or (catalog_of d) (5 + 6 * t + c) [] ≡ column_entry (column_from (get_or cells (5 + 6 * t + c) []))
    column_anew k = here ∙ room_in column_entry (column_from []) (table_from cells t).columns 6 c (omega (arith, width_is t l)) ∙ ap column_entry (column_is k)

    pub column_blank : column_count cells t ≤ c → get_or (catalog_of d) (5 + 6 * t + c) [] ≡ blank_entry
    column_blank k = here ∙ room_out column_entry (column_from []) (table_from cells t).columns 6 c (omega (arith, width_is t l)) g

    -- its name has its place
    pub column_short : c < column_count cells t → length (entry_name (get_or cells (5 + 6 * t + c) [])) ≤ 24
    unfolding sane_table sane_column
    column_short k =
        let s = (parts (table_sane (length d.tables) (table_from cells t)) (every_table t l)).1.1.0 in
        let q = all_at (sane_column (length d.tables)) (table_from cells t).columns c (column_from []) s (omega (arith, width_is t l)) in
        let z : sane_column (length d.tables) (column_from (get_or cells (5 + 6 * t + c) [])) ≡ true = subst (λ (x : Column). sane_column (length d.tables) x ≡ true) (column_is k) q in
        id_short (entry_name (get_or cells (5 + 6 * t + c) [])) (parts (column_sane (length d.tables) (column_from (get_or cells (5 + 6 * t + c) []))) z).0

  pub column_none : (t c : ℕ) → n ≤ t → t < 4 → c < 6 → get_or (catalog_of d) (5 + 6 * t + c) [] ≡ blank_entry
  column_none t c l k g = column_place_lem t c k g ∙ columns_none cells 4 0 n t c narrow k l g

  pub database_short : length (entry_name (get_or cells 0 [])) ≤ 24
  unfolding sane
  database_short = id_short (entry_name (get_or cells 0 [])) (parts (database_sane d) r.sane).0

  module _ (t : ℕ) (l : t < n) where
    pub table_short : length (entry_name (get_or cells (1 + t) [])) ≤ 24
    unfolding sane_table table_from
    table_short = id_short (entry_name (get_or cells (1 + t) [])) (parts (table_sane (length d.tables) (table_from cells t)) (every_table t l)).0

    few_in : (k : ℕ) (ls : List (List ℕ)) → all (sane_index k) ls ≡ true → all (λ (x : List ℕ). leb (length x) most_index_columns) ls ≡ true
    unfolding sane_index
    few_in k [] q = refl
    few_in k (x ∷ ls) q = rw ((parts (index_sane k x) (and_l (sane_index k x) (all (sane_index k) ls) q)).1.0, few_in k ls (and_r (sane_index k x) (all (sane_index k) ls) q))

    pub table_indexes : all (λ (x : List ℕ). leb (length x) most_index_columns) (indexes_from (get_or cells (1 + t) [])) ≡ true
    unfolding sane_table table_from
    table_indexes = few_in (length (table_from cells t).columns) (indexes_from (get_or cells (1 + t) [])) (parts (table_sane (length d.tables) (table_from cells t)) (every_table t l)).1.1.1.1.0

-- the length byte of a name that has its place
pub name_bound : (e : List ℕ) → length e ≡ entry_bytes → length (entry_name e) ≤ 24 → get_or e 0 0 ≤ 24
name_bound e s h = omega (arith, length-take (get_or e 0 0) (drop 1 e), length-drop 1 e)
