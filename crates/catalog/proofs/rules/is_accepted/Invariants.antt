-- The loop of `catalog::rules::is_accepted`.
use Rattle.std.proofs.Common.{◌≡◌, ◌-◌}
use Rattle.model.specs.Catalog.{table_count}
use Rattle.catalog.specs.Judging.{tables_fine}
use Rattle.catalog.proofs.rules.is_accepted.Given as goal

abbrev pub invariant-loop-t : goal.invariant-loop-t
invariant-loop-t l = (l.n ≡ table_count l.catalog) × (tables_fine (table_count l.catalog) l.catalog 0 4 ≡ tables_fine (table_count l.catalog) l.catalog l.t (4 - l.t))
