-- The loop of `rows::has_id_few`.
use mathlib.Core.Path.{◌≡◌}
use lib.ListN.{drop}
use Rattle.model.specs.Octets.{value}
use Rattle.model.specs.Schema.{Schema}
use Rattle.model.specs.Rows.{has_id}
use Rattle.inner.specs.Working.{working}
use Rattle.rows.proofs.has_id_few.Given as goal

abbrev pub invariant-loop-i : goal.invariant-loop-i
invariant-loop-i l = (s : Schema) → has_id (value l.id) (working s l.n l.rows) ≡ has_id (value l.id) (drop l.i (working s l.n l.rows))
