-- The loop of `garbage::counts::count_all`.
use mathlib.Core.Path.{◌≡◌}
use Prim.Native.Nat.{◌≤◌}
use lib.ListN.{length}
use Rattle.model.specs.Catalog.{packed_tables}
use Rattle.garbage.proofs.Counting.{Adding}
use Rattle.garbage.proofs.counts.count_all.Given as goal

abbrev pub invariant-loop-i : goal.invariant-loop-i
invariant-loop-i l = (l.i ≤ l.n) × (length l.counts ≡ length l.initial.counts) × Adding (packed_tables l.schema) l.n l.rows l.i l.counts
