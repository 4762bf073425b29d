-- `uuids::entry_at` meets its contract.
use native.Mathlib.Omega.{arith}
use Rattle.uuids.specs.Named.{entry_at}
use Rattle.uuids.proofs.entry_at.Goals as goal

pub returns : goal.returns
unfolding entry_at
returns c = omega (arith, c.wide-high.ensures, c.wide-low.ensures)
