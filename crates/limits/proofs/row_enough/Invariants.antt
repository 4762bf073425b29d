-- The loop of `limits::row_enough`.
use mathlib.Core.Path.{◌≡◌}
use Rattle.model.specs.Areas.{row_from}
use Rattle.model.specs.Catalog.{packed_tables}
use Rattle.limits.specs.Alike.{row_enough}
use Rattle.limits.proofs.Enough.{enough_from}
use Rattle.limits.proofs.row_enough.Given as goal

abbrev pub invariant-loop-c : goal.invariant-loop-c
invariant-loop-c l = row_enough (packed_tables l.schema) (row_from (packed_tables l.schema) l.row) ≡ enough_from l.schema l.row l.c
