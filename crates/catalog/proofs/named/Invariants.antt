-- The loop of `catalog::named`.
use Rattle.std.proofs.Common.{◌≡◌}
use Rattle.catalog.specs.Entries.{entry_named}
use Rattle.catalog.proofs.Lookups.{found_from, left}
use Rattle.catalog.proofs.named.Given as goal

abbrev pub invariant-loop-i : goal.invariant-loop-i
invariant-loop-i l = entry_named l.entries l.name ≡ found_from l.i (left l.entries l.name l.i)
