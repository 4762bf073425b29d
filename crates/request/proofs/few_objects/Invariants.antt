-- The loop of `request::few_objects`.
use Prim.Native.Nat.{◌≤◌}
use Rattle.inner.specs.Positions.{items_from, left}
use Rattle.indexes.proofs.Judged.{Passed}
use Rattle.request.proofs.Objects.{object}
use Rattle.request.proofs.few_objects.Given as goal

abbrev pub invariant-loop-g : goal.invariant-loop-g
invariant-loop-g l = (l.n ≤ 16) × Passed l.text object (items_from l.text l.initial.g) l.n l.g

abbrev pub decreases-loop-g : goal.decreases-loop-g
decreases-loop-g l = left l.text l.g
