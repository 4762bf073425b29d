-- The loop of `row_types::row_meets`.
use mathlib.Core.Path.{◌≡◌}
use lib.ListN.{drop}
use Rattle.row_types.specs.Met.{met_from}
use Rattle.row_types.proofs.row_meets.Given as goal

abbrev pub invariant-loop-c : goal.invariant-loop-c
invariant-loop-c l = met_from 0 l.columns l.row ≡ met_from l.c (drop l.c l.columns) l.row
