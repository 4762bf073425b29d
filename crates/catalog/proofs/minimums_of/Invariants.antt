-- The loop of `catalog::minimums_of`.
use Rattle.std.proofs.Common.{◌≡◌, ◌++◌, ◌-◌, take, replicate}
use Rattle.catalog.proofs.Minimums.{mins_of}
use Rattle.catalog.proofs.minimums_of.Given as goal

abbrev pub invariant-loop-c : goal.invariant-loop-c
invariant-loop-c l = l.mins ≡ take l.c (mins_of l.columns) ++ replicate (6 - l.c) 0
