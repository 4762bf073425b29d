-- The loop of `limits::tables_good`.
use mathlib.Core.Path.{◌≡◌}
use Rattle.model.specs.Commit.{tables_good}
use Rattle.model.specs.Catalog.{packed_tables}
use Rattle.inner.specs.Working.{working}
use Rattle.limits.proofs.Tables.{good_from}
use Rattle.limits.proofs.tables_good.Given as goal

abbrev pub invariant-loop-t : goal.invariant-loop-t
invariant-loop-t l = tables_good 0 (packed_tables l.schema) (working (packed_tables l.schema) l.n l.rows) ≡ good_from l.schema l.n l.rows 0 l.t
