-- The loop of `nav::digits_of`.
use Prim.Native.Nat.{◌-◌}
use mathlib.Core.Path.{◌≡◌}
use Rattle.model.specs.Whole.{sized}
use Rattle.model.specs.Scan.{between}
use Rattle.nav.proofs.digits_of.Given as goal

abbrev pub invariant-loop-i : goal.invariant-loop-i
invariant-loop-i l = sized 0 (between l.text l.at l.end) ≡ sized l.acc (between l.text l.i l.end)

abbrev pub decreases-loop-i : goal.decreases-loop-i
decreases-loop-i l = l.end - l.i
