-- `catalog::is_found` meets its contract.
use Rattle.catalog.specs.Entries.{is_found}
use Rattle.catalog.proofs.is_found.Goals as goal

pub returns-in-Some : goal.returns-in-Some
unfolding is_found
returns-in-Some c = rw c.in-Some.is

pub returns-in-None : goal.returns-in-None
unfolding is_found
returns-in-None c = rw c.in-None.is
