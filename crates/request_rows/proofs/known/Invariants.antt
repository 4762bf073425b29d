-- The loop of `request_rows::known`.
use mathlib.Core.List.{map}
use Rattle.inner.specs.Positions.{tree_at, left}
use Rattle.model.specs.Members.{members_in}
use Rattle.model.specs.Catalog.{column_from}
use Rattle.request_rows.proofs.Faults.{Knows}
use Rattle.request_rows.proofs.known.Given as goal

abbrev pub invariant-loop-g : goal.invariant-loop-g
invariant-loop-g l = Knows l.text (map column_from l.columns) (members_in (tree_at l.text l.at)) l.g

abbrev pub decreases-loop-g : goal.decreases-loop-g
decreases-loop-g l = left l.text l.g
