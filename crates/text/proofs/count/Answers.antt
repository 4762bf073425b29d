-- `text::count` meets its contract.
use Rattle.text.specs.Push.{count_of}
use Rattle.text.proofs.count.Goals as goal

pub returns-in-Some : goal.returns-in-Some
unfolding count_of
returns-in-Some c = rw c.in-Some.is

pub returns-in-None : goal.returns-in-None
unfolding count_of
returns-in-None c = rw c.in-None.is
