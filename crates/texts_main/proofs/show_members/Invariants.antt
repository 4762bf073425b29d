-- The loop of `texts_main::show_members`.
use Rattle.inner.specs.Positions.{left}
use Rattle.texts_main.proofs.show_members.Given as goal

abbrev pub decreases-loop-next : goal.decreases-loop-next
decreases-loop-next l = left l.text l.next
