-- The loop of `text::find`.
use Rattle.inner.specs.Positions.{tree_at, left}
use Rattle.model.specs.Members.{members_in}
use Rattle.text.proofs.Last.{Sofar}
use Rattle.text.proofs.find.Given as goal

abbrev pub invariant-loop-g : goal.invariant-loop-g
invariant-loop-g l = Sofar l.text l.word (members_in (tree_at l.text l.at)) l.last l.g

abbrev pub decreases-loop-g : goal.decreases-loop-g
decreases-loop-g l = left l.text l.g
