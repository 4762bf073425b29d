-- The loop of `columns::collect`.
use Rattle.inner.specs.Positions.{tree_at, left}
use Rattle.columns.proofs.Gathering.{Gathered}
use Rattle.columns.proofs.collect.Given as goal

abbrev pub invariant-loop-g : goal.invariant-loop-g
invariant-loop-g l = Gathered l.text l.most (tree_at l.text l.at) l.n l.places l.names l.g

abbrev pub decreases-loop-g : goal.decreases-loop-g
decreases-loop-g l = left l.text l.g
