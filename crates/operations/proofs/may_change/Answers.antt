-- `operations::may_change` meets its contract.
use mathlib.Core.Path.{sym, ap}
use Rattle.operations.specs.Ran.{may_change}
use Rattle.operations.proofs.may_change.Goals as goal

pub returns-in-Count : goal.returns-in-Count
returns-in-Count c = sym (ap may_change c.in-Count.is)
