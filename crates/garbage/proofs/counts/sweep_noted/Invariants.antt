-- The loop of `garbage::counts::sweep_noted`.
use mathlib.Core.Path.{◌≡◌}
use Prim.Native.Nat.{◌-◌}
use lib.ListN.{length}
use Rattle.model.specs.Catalog.{packed_tables}
use Rattle.garbage.specs.Counts.{PartlySwept}
use Rattle.garbage.proofs.counts.sweep_noted.Given as goal

abbrev pub invariant-loop-k : goal.invariant-loop-k
invariant-loop-k l = (length l.marks ≡ length l.initial.marks) × (length l.counts ≡ length l.initial.counts) × PartlySwept (packed_tables l.schema) l.n l.rows l.initial.marks l.initial.counts l.marks l.counts

abbrev pub decreases-loop-k : goal.decreases-loop-k
decreases-loop-k l = l.k-end - l.k
