-- The tests of the tables, as the code makes them. Assumes nothing.
use mathlib.Core.Path.{◌≡◌}
use mathlib.Core.Bool.{true, false, ◌&&◌}
use mathlib.Core.List.{List, [], map}
use Prim.Native.Nat.{ℕ, suc, ◌+◌, ◌-◌, ◌*◌, ◌≤◌, ◌<◌}
use native.Mathlib.Omega.{arith}
use borrow.Author.Tests.{leb-true}
use lib.ListN.{get_or, take, drop}
use Rattle.model.specs.Base.{all, distinct}
use Rattle.model.specs.Catalog.{entry_name, column_count, column_place, table_count}
use Rattle.model.proofs.Tests.{parts}
use Rattle.catalog.specs.Entries.{columns_at}
use Rattle.catalog.specs.Judging.{is_column, head_tests, is_head, is_database, database_tests, is_blank, is_table, table_fine, tables_fine, judged}

pub narrow_head : (e : List ℕ) → is_head e ≡ true → get_or e 25 0 ≤ 6
unfolding is_head
narrow_head e h = leb-true (get_or e 25 0) 6 (parts (head_tests e) h).1.0

pub few_database : (e : List ℕ) → is_database e ≡ true → get_or e 25 0 ≤ 4
unfolding is_database
few_database e h = leb-true (get_or e 25 0) 4 (parts (database_tests e) h).1.0

pub table_code : (n : ℕ) (cells : List (List ℕ)) (t k : ℕ) {cols : List (List ℕ)} → is_head (get_or cells (1 + t) []) ≡ true → k ≡ column_count cells t → cols ≡ columns_at cells t
    → is_table n cells t ≡ (all (is_column n) cols && (distinct (map entry_name cols) && all is_blank (take (5 + 6 * t + 6 - (5 + 6 * t + k)) (drop (5 + 6 * t + k) cells))))
unfolding is_table
table_code n cells t k h e c =
    let q : 5 + 6 * t + 6 - (5 + 6 * t + k) ≡ 6 - column_count cells t = omega arith in
    let r : 5 + 6 * t + k ≡ column_place t (column_count cells t) = omega arith in
    rw (h, c, q, r)

pub table_not : (n : ℕ) (cells : List (List ℕ)) (t : ℕ) → is_head (get_or cells (1 + t) []) ≡ false → is_table n cells t ≡ false
unfolding is_table
table_not n cells t h = rw h

module _ (n : ℕ) (cells : List (List ℕ)) (t : ℕ) where
  pub fine_next : t < 4 → table_fine n cells t ≡ true → tables_fine n cells t (4 - t) ≡ tables_fine n cells (t + 1) (4 - (t + 1))
  fine_next l h =
      let a : 4 - t ≡ suc (4 - (t + 1)) = omega arith in
      let b : suc t ≡ t + 1 = omega arith in
      rw (a, h, b)

  pub fine_not : t < 4 → table_fine n cells t ≡ false → tables_fine n cells t (4 - t) ≡ false
  fine_not l h =
      let a : 4 - t ≡ suc (4 - (t + 1)) = omega arith in
      rw (a, h)

  pub fine_end : 4 ≤ t → tables_fine n cells t (4 - t) ≡ true
  fine_end l =
      let a : 4 - t ≡ 0 = omega arith in
      rw a

module _ (cells : List (List ℕ)) where
  pub judged_database : is_database (get_or cells 0 []) ≡ false → judged cells ≡ false
  unfolding judged
  judged_database h = rw h

  pub judged_tables : is_database (get_or cells 0 []) ≡ true → tables_fine (table_count cells) cells 0 4 ≡ false → judged cells ≡ false
  unfolding judged
  judged_tables d h = rw (d, h)

  pub judged_names : is_database (get_or cells 0 []) ≡ true → tables_fine (table_count cells) cells 0 4 ≡ true → judged cells ≡ distinct (map entry_name (take (table_count cells) (drop 1 cells)))
  unfolding judged
  judged_names d h = rw (d, h)
