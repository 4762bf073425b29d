-- `rows::table_of` meets its contract.
use mathlib.Core.Path.{refl}
use Rattle.inner.specs.Working.{table_in}
use Rattle.rows.proofs.table_of.Goals as goal

pub returns : goal.returns
unfolding table_in
returns c = refl
