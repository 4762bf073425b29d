-- The loop of `indexes::few_fit`.
use Rattle.indexes.proofs.Judged.{Passed}
use Rattle.model.specs.SchemaText.{index_fits}
use Rattle.model.specs.Members.{members_in}
use Rattle.inner.specs.Positions.{tree_at, left}
use Rattle.model.specs.Nav.{items_in}
use Prim.Native.Nat.{◌≤◌}
use Rattle.indexes.proofs.few_fit.Given as goal

abbrev pub invariant-loop-g : goal.invariant-loop-g
invariant-loop-g l = (l.n ≤ 2) × Passed l.text (index_fits (members_in (tree_at l.text l.columns))) (items_in (tree_at l.text l.at)) l.n l.g

abbrev pub decreases-loop-g : goal.decreases-loop-g
decreases-loop-g l = left l.text l.g
