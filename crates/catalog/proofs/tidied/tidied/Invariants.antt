-- The loop of `catalog::tidied::tidied`.
use Rattle.std.proofs.Common.{◌≡◌, [], replicate}
use Rattle.model.specs.Catalog.{database_from, catalog_of}
use Rattle.catalog.proofs.Copied.{copied}
use Rattle.catalog.proofs.tidied.tidied.Given as goal

abbrev pub invariant-loop-i : goal.invariant-loop-i
invariant-loop-i l = l.out ≡ copied (replicate 29 (replicate 48 0)) (catalog_of (database_from l.cells)) [] l.i
