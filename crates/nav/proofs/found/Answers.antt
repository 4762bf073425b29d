-- `nav::found` meets its contract.
use Rattle.inner.specs.Positions.{found_of}
use Rattle.nav.proofs.found.Goals as goal

pub returns-in-Continue : goal.returns-in-Continue
unfolding found_of
returns-in-Continue c = rw c.in-Continue.is

pub returns-in-Break : goal.returns-in-Break
unfolding found_of
returns-in-Break c = rw c.in-Break.is
