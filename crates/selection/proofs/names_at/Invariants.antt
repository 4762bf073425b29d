-- The loop of `selection::names_at`.
use Rattle.inner.specs.Positions.{left}
use Rattle.selection.proofs.Names.{Naming}
use Rattle.selection.proofs.names_at.Given as goal

abbrev pub invariant-loop-g : goal.invariant-loop-g
invariant-loop-g l = Naming l.text l.columns l.initial.g l.g l.flags

abbrev pub decreases-loop-g : goal.decreases-loop-g
decreases-loop-g l = left l.text l.g
