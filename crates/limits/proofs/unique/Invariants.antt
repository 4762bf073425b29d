-- The loop of `limits::unique`.
use mathlib.Core.Path.{◌≡◌}
use lib.ListN.{drop, take}
use Rattle.model.specs.Base.{keep}
use Rattle.limits.specs.Alike.{of_t, unique_cells}
use Rattle.limits.proofs.unique.Given as goal

abbrev pub invariant-loop-i : goal.invariant-loop-i
invariant-loop-i l = unique_cells l.index (keep (of_t l.table) (take l.n l.rows)) ≡ unique_cells l.index (keep (of_t l.table) (drop l.i (take l.n l.rows)))
