-- The loop of `catalog::rules::is_clear`.
use Rattle.std.proofs.Common.{◌≡◌, take}
use Rattle.std.specs.List.{list_all}
use Rattle.catalog.specs.Judging.{is_zero}
use Rattle.catalog.proofs.rules.is_clear.Given as goal

abbrev pub invariant-loop-x : goal.invariant-loop-x
invariant-loop-x l = l.ok ≡ list_all is_zero (take l.x-index l.b)
