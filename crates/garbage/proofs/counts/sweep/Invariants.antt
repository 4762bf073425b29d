-- The loop of `garbage::counts::sweep`.
use mathlib.Core.Path.{◌≡◌}
use mathlib.Core.List.{List}
use Prim.Native.Nat.{ℕ}
use lib.ListN.{length}
use Rattle.model.specs.Catalog.{packed_tables}
use Rattle.inner.specs.Working.{working}
use Rattle.garbage.specs.Counts.{left, Swept}
use Rattle.garbage.proofs.counts.sweep.Given as goal

abbrev pub invariant-loop-i : goal.invariant-loop-i
invariant-loop-i l = (length l.marks ≡ length l.initial.marks) × (length l.counts ≡ length l.initial.counts) × ((end : List ℕ) → Swept (packed_tables l.schema) l.n l.rows l.marks l.counts end → Swept (packed_tables l.schema) l.n l.rows l.initial.marks l.initial.counts end)

abbrev pub decreases-loop-i : goal.decreases-loop-i
decreases-loop-i l = length (left (working (packed_tables l.schema) l.n l.rows) l.marks)
