-- The loop of `uuids::fill_names`.
use Rattle.inner.specs.Positions.{left}
use Rattle.uuids.specs.Named.{operations_at}
use Rattle.uuids.proofs.Table.{Filling}
use Rattle.uuids.proofs.fill_names.Given as goal

abbrev pub invariant-loop-g : goal.invariant-loop-g
invariant-loop-g l = Filling l.text (operations_at l.text l.initial.g) l.fresh l.names l.g l.k

abbrev pub decreases-loop-g : goal.decreases-loop-g
decreases-loop-g l = left l.text l.g
