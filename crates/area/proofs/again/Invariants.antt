-- The loop of `area::again`.
use mathlib.Core.Path.{◌≡◌}
use lib.ListN.{drop}
use Rattle.model.specs.Schema.{Schema}
use Rattle.model.specs.Rows.{has_id}
use Rattle.inner.specs.Working.{working, id_in}
use Rattle.area.proofs.again.Given as goal

abbrev pub invariant-loop-i : goal.invariant-loop-i
invariant-loop-i l = (s : Schema) → has_id (id_in l.row) (drop l.at (working s l.n l.rows)) ≡ has_id (id_in l.row) (drop l.i (working s l.n l.rows))
