-- The loop of `scan::passing`.
use Rattle.std.proofs.Common.{◌≡◌, ◌-◌, ◌≤◌, length}
use Rattle.model.specs.Scan.{passing}
use Rattle.scan.proofs.passing.Given as goal

abbrev pub invariant-loop-i : goal.invariant-loop-i
invariant-loop-i g l = (l.at ≤ l.i) × (passing g.f l.text (length l.text) l.at ≡ passing g.f l.text (length l.text - (l.i - l.at)) l.i)

abbrev pub decreases-loop-i : goal.decreases-loop-i
decreases-loop-i g l = length l.text - l.i
