-- The loop of `garbage::counts::count_row`.
use mathlib.Core.Path.{◌≡◌}
use mathlib.Core.List.{List}
use Prim.Native.Nat.{ℕ, ◌≤◌}
use lib.ListN.{length}
use Rattle.model.specs.Commit.{strong_of}
use Rattle.model.specs.Areas.{row_from}
use Rattle.model.specs.Catalog.{packed_tables}
use Rattle.references.specs.Links.{pick}
use Rattle.references.proofs.Links.{rest_of}
use Rattle.garbage.proofs.Counting.{Left}
use Rattle.garbage.proofs.counts.count_row.Given as goal

-- the keys that a row refers to strongly
abbrev pub strong_in : List (List ℕ) → List (List ℕ) → List ℕ
strong_in schema row = strong_of (packed_tables schema) (row_from (packed_tables schema) row)

abbrev pub invariant-loop-c : goal.invariant-loop-c
invariant-loop-c l = (l.c ≤ l.w) × (length l.counts ≡ length l.initial.counts) × Left l.up l.n l.rows l.own (strong_in l.schema l.row) l.initial.counts (rest_of (pick 1) l.schema l.row l.c) l.counts
