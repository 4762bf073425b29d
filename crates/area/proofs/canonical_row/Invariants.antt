-- The loop of `area::canonical_row`.
use mathlib.Core.Path.{◌≡◌}
use lib.ListN.{drop}
use Rattle.area.specs.Layout.{canonical_from}
use Rattle.area.proofs.canonical_row.Given as goal

abbrev pub invariant-loop-c : goal.invariant-loop-c
invariant-loop-c l = canonical_from 0 l.cells l.row ≡ canonical_from l.c (drop l.c l.cells) l.row
