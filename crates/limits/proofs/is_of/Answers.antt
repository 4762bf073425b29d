-- `limits::is_of` meets its contract.
use mathlib.Core.Path.{ap}
use lib.Dec.{eqb}
use Rattle.limits.specs.Alike.{of_t}
use Rattle.limits.proofs.is_of.Goals as goal

pub returns : goal.returns
unfolding of_t
returns c = ap (eqb c.args.table) c.table_of.ensures
