-- The loop of `area::zeros_from`.
use mathlib.Core.Path.{◌≡◌}
use mathlib.Core.Bool.{◌&&◌}
use lib.ListN.{drop}
use Rattle.model.specs.Value.{zeros}
use Rattle.area.proofs.zeros_from.Given as goal

abbrev pub invariant-loop-i : goal.invariant-loop-i
invariant-loop-i l = zeros (drop l.at l.area) ≡ (l.ok && zeros (drop l.i l.area))
