-- `rows::count_of` meets its contract.
use mathlib.Core.Path.{refl}
use Rattle.inner.specs.Working.{value_in}
use Rattle.rows.proofs.count_of.Goals as goal

pub returns : goal.returns
unfolding value_in
returns c = refl
