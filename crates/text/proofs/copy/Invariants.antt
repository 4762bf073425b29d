-- The loop of `text::copy`.
use Prim.Native.Nat.{◌-◌, ◌≤◌}
use mathlib.Core.Path.{◌≡◌}
use lib.ListN.{length}
use Rattle.model.specs.Scan.{between}
use Rattle.text.specs.Push.{Pushed}
use Rattle.text.proofs.copy.Given as goal

abbrev pub invariant-loop-i : goal.invariant-loop-i
invariant-loop-i l = ((l.from ≤ l.i) × (l.i - l.from ≤ l.to - l.from)) × ((length l.out ≡ length l.initial.out) × Pushed l.initial.out l.initial.x (between l.text l.from l.i) l.x l.out)

abbrev pub decreases-loop-i : goal.decreases-loop-i
decreases-loop-i l = l.to - l.i
