-- The loop of `operations::run`.
use mathlib.Core.Path.{◌≡◌}
use lib.ListN.{length}
use Rattle.inner.specs.Positions.{left}
use Rattle.operations.proofs.Going.{Going}
use Rattle.operations.proofs.run.Given as goal

abbrev pub invariant-loop-g : goal.invariant-loop-g
invariant-loop-g l =
    (length l.rows ≡ length l.initial.rows) × (length l.answer ≡ length l.initial.answer) × Going l.schema l.text l.initial.g l.names l.initial.rows l.n l.initial.answer l.initial.at l.rows l.answer l.at l.g l.i l.m l.pending

abbrev pub decreases-loop-g : goal.decreases-loop-g
decreases-loop-g l = left l.text l.g
