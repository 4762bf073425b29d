-- The loop of `indexes::index`.
use Rattle.indexes.proofs.Numbers.{Filled}
use Rattle.model.specs.Catalog.{entry_name}
use Rattle.inner.specs.Positions.{tree_at, left}
use mathlib.Core.List.{map}
use Rattle.indexes.proofs.index.Given as goal

abbrev pub invariant-loop-g : goal.invariant-loop-g
invariant-loop-g l = Filled l.text (map entry_name l.columns) (tree_at l.text l.at) l.q l.n l.g

abbrev pub decreases-loop-g : goal.decreases-loop-g
decreases-loop-g l = left l.text l.g
