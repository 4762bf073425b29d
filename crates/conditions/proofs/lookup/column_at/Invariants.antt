-- The loop of `conditions::lookup::column_at`.
use mathlib.Core.Path.{◌≡◌}
use mathlib.Core.List.{map}
use Rattle.inner.specs.Positions.{tree_at}
use Rattle.model.specs.Catalog.{column_from}
use Rattle.conditions.specs.Lookup.{column_in}
use Rattle.conditions.proofs.Columns.{column_found}
use Rattle.conditions.proofs.lookup.column_at.Given as goal

abbrev pub invariant-loop-i : goal.invariant-loop-i
invariant-loop-i l = (column_in (map column_from l.columns) (tree_at l.text l.at)) ≡ column_found l.columns (tree_at l.text l.at) l.i
