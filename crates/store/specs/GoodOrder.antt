-- The store that an area in good order holds: its catalog, and its rows in cells. Assumes nothing: these are definitions.
use Rattle.std.specs.Prelude.{ℕ, ◌≤◌, ◌≡◌, Bool, true, false, List, length, take, Some, None}
use Rattle.model.specs.Octets.{value, part}
use Rattle.model.specs.Limits.{most_rows, number_bytes, run_offset, store_bytes}
use Rattle.model.specs.Catalog.{database_from, packed_tables}
use Rattle.model.specs.Areas.{entries_in, store_of}
use Rattle.inner.specs.Working.{Tidy, Ordered}
use Rattle.catalog.specs.Accepted.{Accepted, is_accepted}
use Rattle.area.specs.Layout.{row_count, rows_at}
use Rattle.area.specs.Writing.{number_in, store_in}

abbrev pub run_in : List ℕ → ℕ
run_in a = value (part run_offset number_bytes a)

-- an area's catalog, accepted
pub record Kept (a : List ℕ) (catalog : List (List ℕ)) : Type 0 where
  pub there : catalog ≡ entries_in a
  pub accepted : is_accepted catalog ≡ true

-- what an area in good order is, by its catalog and the cells of its rows
pub record Held (a : List ℕ) (catalog : List (List ℕ)) (rows : List (List (List ℕ))) : Type 0 where
  pub size : length a ≡ store_bytes
  pub store : store_of a ≡ Some (store_in (database_from catalog) (run_in a) (number_in a) (row_count a) rows)
  pub accepted : Accepted catalog
  pub few : row_count a ≤ most_rows
  pub tidy : Tidy (packed_tables catalog) (take (row_count a) rows)
  pub ordered : Ordered (row_count a) rows
  pub read : take (row_count a) rows ≡ rows_at (row_count a) a

-- "Good order, for a store", or none (refusal 1), by an accepted catalog; where there is none the working rows are free, as many as before
pub record RowsOpened (a : List ℕ) (catalog : List (List ℕ)) (before rows : List (List (List ℕ))) (r : Bool) : Type 0 where
  pub good : r ≡ true → Held a catalog rows
  pub bad : r ≡ false → store_of a ≡ None
  pub room : length rows ≡ length before

-- the same, and what was read on the way: nothing from an area of another length, else its catalog, whether it is accepted or not; where there is no good order the working rows are free, as many as before
pub record Opened (a : List ℕ) (was catalog : List (List ℕ)) (before rows : List (List (List ℕ))) (r : Bool) : Type 0 where
  pub good : r ≡ true → Held a catalog rows
  pub bad : r ≡ false → store_of a ≡ None
  pub untouched : (length a ≡ store_bytes → ⊥) → (catalog ≡ was) × (rows ≡ before)
  pub read : length a ≡ store_bytes → catalog ≡ entries_in a
  pub room : length rows ≡ length before
