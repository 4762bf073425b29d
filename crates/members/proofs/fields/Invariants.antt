-- The loop of `members::fields`.
use mathlib.Core.Path.{◌≡◌}
use mathlib.Core.Bool.{true}
use Rattle.inner.specs.Positions.{tree_at, members_from, members_fine, left}
use Rattle.model.specs.Members.{members_in}
use Rattle.members.specs.Fields.{words_of}
use Rattle.members.proofs.Kept.{Kept}
use Rattle.members.proofs.fields.Given as goal

abbrev pub invariant-loop-g : goal.invariant-loop-g
invariant-loop-g l = Kept l.text (words_of l.words) (members_in (tree_at l.text l.at)) l.slots (members_from l.text l.g) × (members_fine l.text l.g ≡ true)

abbrev pub decreases-loop-g : goal.decreases-loop-g
decreases-loop-g l = left l.text l.g
