-- What an accepted catalog is, and how far its counts go. Assumes nothing.
use mathlib.Core.Path.{◌≡◌, refl, ap, ◌∙◌}
use mathlib.Core.Bool.{Bool, true}
use mathlib.Core.List.{List, [], map}
use Prim.Native.Nat.{ℕ, zero, suc, ◌+◌, ◌-◌, ◌≤◌, ◌<◌}
use native.Mathlib.Omega.{arith}
use borrow.Author.Tests.{le-leb, leb-true}
use lib.Dec.{leb}
use lib.ListN.{length, get_or, replicate, length-append, length-map, length-replicate, get_or-append}
use Rattle.model.specs.Base.{all, eq_lists}
use Rattle.model.specs.Limits.{most_tables, most_columns, entry_count}
use Rattle.model.specs.Schema.{Table, Database}
use Rattle.model.specs.Catalog.{table_count, column_count, tables_from, database_from, table_entry, blank_entry, in_room, column_entries, catalog_of}
use Rattle.model.specs.Sane.{database_sane, sane_table, sane}
use Rattle.model.proofs.Tests.{and_l, and_r, parts, lists_same}
use Rattle.model.proofs.Lists.{all_append, all_same, all_at}
use Rattle.model.proofs.SchemaLaws.{all_map}
use Rattle.model.proofs.Catalogs.{width_read, t_narrow}
use Rattle.catalog.specs.Accepted.{Accepted, is_accepted}

pub accepted_of : (cells : List (List ℕ)) → length cells ≡ entry_count → is_accepted cells ≡ true → Accepted cells
unfolding is_accepted
accepted_of cells n h =
    let same = eq_lists (catalog_of (database_from cells)) cells in
    record {
      size = n;
      same = lists_same (catalog_of (database_from cells)) cells (and_l same (sane (database_from cells)) h);
      sane = and_r same (sane (database_from cells)) h;
    }

pub tables_length : (cells : List (List ℕ)) (t k : ℕ) → length (tables_from cells t k) ≡ k
tables_length cells t zero = refl
tables_length cells t (suc k) = ap suc (tables_length cells (suc t) k)

module _ (d : Database) (h : sane d ≡ true) where
  few : length d.tables ≤ most_tables
  unfolding sane
  few = leb-true (length d.tables) 4 (parts (database_sane d) h).1.0

  tables_sane : all (sane_table (length d.tables)) d.tables ≡ true
  unfolding sane
  tables_sane = (parts (database_sane d) h).1.1.0

pub few_tables : (cells : List (List ℕ)) → Accepted cells → table_count cells ≤ most_tables
few_tables cells a = omega (arith, few (database_from cells) a.sane, tables_length cells 0 (table_count cells))

-- a table's entry has few columns, and so has a blank one
abbrev narrow : List ℕ → Bool
narrow entry = leb (get_or entry 25 0) 6

narrow_table_lem : (n : ℕ) (t : Table) → sane_table n t ≡ true → narrow (table_entry t) ≡ true
narrow_table_lem n t h = ap (λ (k : ℕ). leb k 6) (width_read n t h) ∙ le-leb (length t.columns) 6 (t_narrow n t h)

module _ (d : Database) (h : sane d ≡ true) where
  abbrev heads : List (List ℕ)
  heads = in_room 4 (map table_entry d.tables)

  heads_length : length heads ≡ 4
  heads_length = simp (length-append, length-replicate, length-map) (omega (arith, few d h))

  heads_narrow : all narrow heads ≡ true
  heads_narrow =
      all_append narrow (map table_entry d.tables) (replicate (4 - length (map table_entry d.tables)) blank_entry)
      (all_map narrow (sane_table (length d.tables)) table_entry (narrow_table_lem (length d.tables)) d.tables (tables_sane d h))
      (all_same narrow (4 - length (map table_entry d.tables)) blank_entry refl)

  width_few : (t : ℕ) → t < most_tables → get_or (get_or (catalog_of d) (1 + t) []) 25 0 ≤ most_columns
  unfolding catalog_of
  width_few t l =
      let s : 1 + t ≡ suc t = omega arith in
      let g : get_or (catalog_of d) (1 + t) [] ≡ get_or heads t [] =
      ap (λ (k : ℕ). get_or (catalog_of d) k []) s ∙ get_or-append heads (column_entries 4 d.tables) [] t (omega (arith, heads_length)) in
      rw g (leb-true (get_or (get_or heads t []) 25 0) 6 (all_at narrow heads t [] heads_narrow (omega (arith, heads_length))))

pub few_columns_lem : (cells : List (List ℕ)) → Accepted cells → (t : ℕ) → t < most_tables → column_count cells t ≤ most_columns
few_columns_lem cells a t l =
    let w = width_few (database_from cells) a.sane t l in
    let e : get_or (get_or (catalog_of (database_from cells)) (1 + t) []) 25 0 ≡ column_count cells t = ap (λ (x : List (List ℕ)). get_or (get_or x (1 + t) []) 25 0) a.same in
    omega (arith, w, e)
