-- `text::quote_end` meets its contract.
use Rattle.inner.specs.Positions.{quote_end}
use Rattle.text.proofs.quote_end.Goals as goal

pub returns-in-Ok : goal.returns-in-Ok
unfolding quote_end
returns-in-Ok c = rw c.in-Ok.is

pub returns-in-Err : goal.returns-in-Err
unfolding quote_end
returns-in-Err c = rw c.in-Err.is
