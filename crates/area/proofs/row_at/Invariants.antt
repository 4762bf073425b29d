-- The loop of `area::row_at`.
use mathlib.Core.Path.{◌≡◌}
use mathlib.Core.List.{[]}
use lib.ListN.{drop, replicate}
use Rattle.model.specs.Records.{cut}
use Rattle.catalog.proofs.Copied.{copied}
use Rattle.area.proofs.row_at.Given as goal

abbrev pub invariant-loop-j : goal.invariant-loop-j
invariant-loop-j l = l.row ≡ copied (replicate 25 (replicate 25 0)) (cut 25 (drop l.at l.area)) [] l.j
