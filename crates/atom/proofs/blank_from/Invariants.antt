-- The loop of `atom::blank_from`.
use Rattle.std.proofs.Common.{◌≡◌, ◌&&◌, drop}
use Rattle.model.specs.Value.{zeros}
use Rattle.atom.proofs.blank_from.Given as goal

abbrev pub invariant-loop-b : goal.invariant-loop-b
invariant-loop-b l = zeros l.rest ≡ (l.ok && zeros (drop l.b-index l.rest))
