-- The loop of `scan::body`.
use Rattle.std.proofs.Common.{◌≡◌, ◌-◌, length}
use Rattle.model.specs.Strings.{body_at}
use Rattle.scan.proofs.body.Given as goal

abbrev pub invariant-loop-e : goal.invariant-loop-e
invariant-loop-e l = (body_at l.text l.at).read ≡ (body_at l.text l.i).read

abbrev pub decreases-loop-e : goal.decreases-loop-e
decreases-loop-e l = length l.text - l.i
