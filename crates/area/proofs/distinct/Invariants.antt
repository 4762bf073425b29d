-- The loop of `area::distinct`.
use mathlib.Core.Path.{◌≡◌}
use lib.ListN.{drop}
use Rattle.model.specs.Schema.{Schema}
use Rattle.model.specs.Areas.{distinct_ids}
use Rattle.inner.specs.Working.{working}
use Rattle.area.proofs.distinct.Given as goal

abbrev pub invariant-loop-i : goal.invariant-loop-i
invariant-loop-i l = (s : Schema) → distinct_ids (working s l.n l.rows) ≡ distinct_ids (drop l.i (working s l.n l.rows))
