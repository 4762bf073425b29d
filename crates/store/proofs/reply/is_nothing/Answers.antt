-- `store::reply::is_nothing` meets its contract.
use Rattle.store.proofs.Texts.{is_at, is_none}
use Rattle.store.proofs.reply.is_nothing.Goals as goal

pub returns-in-Some : goal.returns-in-Some
returns-in-Some c = is_at c.in-Some.is

pub returns-in-None : goal.returns-in-None
returns-in-None c = is_none c.in-None.is
