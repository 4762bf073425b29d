-- The loop of `catalog::rules::are_distinct`.
use Rattle.std.proofs.Common.{◌≡◌, map, drop}
use Rattle.model.specs.Base.{distinct}
use Rattle.model.specs.Catalog.{entry_name}
use Rattle.catalog.proofs.rules.are_distinct.Given as goal

abbrev pub invariant-loop-i : goal.invariant-loop-i
invariant-loop-i l = distinct (map entry_name l.entries) ≡ distinct (map entry_name (drop l.i l.entries))
