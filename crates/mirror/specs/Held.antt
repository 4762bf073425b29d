-- What the calls find in a mirror's area, and what an arrival writes to it. Assumes nothing: these are definitions.
use Rattle.std.specs.Prelude.{◌≡◌, Bool, true, false, not, ◌&&◌, List, ℕ, ◌+◌, ◌*◌, ◌≤◌, eqb, get_or, take}
use Rattle.model.specs.Octets.{big}
use Rattle.model.specs.Limits.{most_rows, number_bytes, row_bytes, number_offset, count_offset, top_offset, heard_offset, whole_offset}
use Rattle.model.specs.Catalog as packed
use Rattle.model.specs.Areas.{database_in, decode_mirror, mirror_of}
use Rattle.inner.specs.Working.{working, Tidy, Ordered}
use Rattle.catalog.specs.Accepted.{Accepted}
use Rattle.area.specs.Layout.{row_count}
use Rattle.area.specs.Writing.{top_in, number_in, tail_bytes, placed, rows_part, when}
use Rattle.arrival.specs.declared.Numbers.{Numbers}

-- an area in good order: its catalog, and its rows in cells
pub record Held (a : List ℕ) (schema : List (List ℕ)) (cells : List (List (List ℕ))) : Type 0 where
  pub accepted : Accepted schema
  pub tables : packed.packed_tables schema ≡ (database_in a).tables
  pub few : row_count a ≤ most_rows
  pub rows : working (packed.packed_tables schema) (row_count a) cells ≡ (decode_mirror a).mirror.rows
  pub tidy : Tidy (packed.packed_tables schema) (take (row_count a) cells)
  pub ordered : Ordered (row_count a) cells

-- whether it is in good order (refusal 1 where it is not), and what was read of it on the way
pub record Opened (a : List ℕ) (schema : List (List ℕ)) (cells : List (List (List ℕ))) (r : Bool) : Type 0 where
  pub state : mirror_of a ≡ when r (decode_mirror a)
  pub held : r ≡ true → Held a schema cells

-- a mirror's numbers, where they lie
unfoldable pub numbers_in : List ℕ → Numbers
numbers_in a = record { n = number_in a; top = top_in a; heard = eqb (get_or a heard_offset 0) 1; whole = eqb (get_or a whole_offset 0) 1 }

-- the area once the numbers are others: n, the rows and the mirror's own bytes where n has moved, its own bytes where only those have
unfoldable pub rewritten : Numbers → Numbers → ℕ → List (List (List ℕ)) → List ℕ → List ℕ
rewritten was is count cells a =
    elim (eqb is.n was.n) [
      | true ↦
          elim (eqb is.top was.top && not (is.heard && not was.heard)) [
            | true ↦ a
            | false ↦ placed top_offset (number_bytes + 2) (tail_bytes is.top is.heard is.whole) a
          ]
      | false ↦ placed top_offset (number_bytes + 2) (tail_bytes is.top is.heard is.whole) (placed count_offset (1 + row_bytes * most_rows) (rows_part count cells) (placed number_offset number_bytes (big number_bytes is.n) a))
    ]
