-- Minimums, one column after another. Assumes nothing.
use mathlib.Core.Path.{◌≡◌, ap}
use mathlib.Core.Bool.{Bool, true, false}
use mathlib.Core.List.{List, []}
use Prim.Native.Nat.{ℕ, ◌+◌, ◌≤◌, ◌<◌}
use borrow.Author.Tests.{le-leb, lt-leb}
use lib.Dec.{leb}
use lib.ListN.{length, get_or, drop, drop_of_length-le}
use Rattle.model.specs.Schema.{columns_of}
use Rattle.model.specs.Commit.{enough, not_over}
use Rattle.model.specs.Octets.{value, part}
use Rattle.model.specs.Areas.{row_from}
use Rattle.model.specs.Catalog.{column_from, column_place, packed_tables, max_rows_from, is_set, limited_offset, max_rows_offset}
use Rattle.inner.specs.Working.{table_in, value_in}
use Rattle.inner.proofs.Working.{row_table}
use Rattle.catalog.specs.Accepted.{Accepted}
use Rattle.references.proofs.Packs.{columns_on}
use Rattle.references.proofs.Links.{values_on}
use Rattle.limits.specs.Alike.{row_enough}

module _ (schema cells : List (List ℕ)) where
  -- the columns from c on have their minimums
  abbrev pub enough_from : ℕ → Bool
  enough_from c = enough (drop c (columns_of (packed_tables schema) (table_in cells))) (drop c (row_from (packed_tables schema) cells).columns)

  pub enough_all : row_enough (packed_tables schema) (row_from (packed_tables schema) cells) ≡ enough_from 0
  unfolding row_enough
  enough_all = ap (λ (t : ℕ). enough (columns_of (packed_tables schema) t) (row_from (packed_tables schema) cells).columns) (row_table (packed_tables schema) cells)

  pub enough_end : (c : ℕ) → length (columns_of (packed_tables schema) (table_in cells)) ≤ c → enough_from c ≡ true
  enough_end c h = rw (drop_of_length-le (columns_of (packed_tables schema) (table_in cells)) {i = c} h)

  module _ (ok : Accepted schema) (c : ℕ) (h : c < length (columns_of (packed_tables schema) (table_in cells))) where
    abbrev pub least : ℕ
    least = (column_from (get_or schema (column_place (table_in cells) c) [])).min

    pub enough_here : (value_in c cells).count < least → enough_from c ≡ false
    enough_here g = rw (columns_on schema ok (table_in cells) c h, values_on (packed_tables schema) cells c h, lt-leb least (value_in c cells).count g)

    pub enough_on : least ≤ (value_in c cells).count → enough_from c ≡ enough_from (c + 1)
    enough_on g = rw (columns_on schema ok (table_in cells) c h, values_on (packed_tables schema) cells c h, le-leb least (value_in c cells).count g)

-- ── a table's limit, by the bytes of its cell ──
module _ (cell : List ℕ) (k : ℕ) where
  pub limit_none : is_set cell limited_offset ≡ false → not_over (max_rows_from cell) k ≡ true
  limit_none e = rw (max_rows_from, e)

  pub limit_some : is_set cell limited_offset ≡ true → not_over (max_rows_from cell) k ≡ leb k (value (part max_rows_offset 8 cell))
  limit_some e = rw (max_rows_from, e)
