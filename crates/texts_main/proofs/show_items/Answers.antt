-- `texts_main::show_items` meets its contract.
use Rattle.nav.proofs.Walk.{walk_less}
use Rattle.texts_main.proofs.show_items.Goals as goal

pub loop-next-smaller : goal.loop-next-smaller
loop-next-smaller c = rw c.next_item-next.ensures (walk_less c.args.text.now c.in-Some.is)
