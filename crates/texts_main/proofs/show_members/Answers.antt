-- `texts_main::show_members` meets its contract.
use Rattle.nav.proofs.Walk.{pass_less}
use Rattle.texts_main.proofs.show_members.Goals as goal

pub loop-next-smaller : goal.loop-next-smaller
loop-next-smaller c = rw c.next_member-next.ensures (pass_less c.args.text.now c.in-Some.is)
