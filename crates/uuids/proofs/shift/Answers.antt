-- `uuids::shift` meets its contract.
use mathlib.Core.Path.{refl}
use Rattle.uuids.specs.Ids.{shifted}
use Rattle.uuids.proofs.shift.Goals as goal

pub returns : goal.returns
unfolding shifted
returns c = refl
