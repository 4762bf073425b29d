-- The loop of `text::same_bodies`.
use mathlib.Core.Path.{◌≡◌}
use lib.ListN.{length}
use Rattle.model.specs.Octets.{eq_bytes}
use Rattle.text.specs.Steps.{body_from, bytes_of, Going}
use Rattle.text.proofs.same_bodies.Given as goal

abbrev pub invariant-loop-x : goal.invariant-loop-x
invariant-loop-x l = (eq_bytes (body_from l.text l.q) (body_from l.text l.p) ≡ eq_bytes (bytes_of l.text l.y) (bytes_of l.text l.x)) × Going l.text l.x × Going l.text l.y

abbrev pub decreases-loop-x : goal.decreases-loop-x
decreases-loop-x l = length (bytes_of l.text l.x)
