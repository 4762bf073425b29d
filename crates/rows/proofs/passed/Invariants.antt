-- The loop of `rows::passed`.
use mathlib.Core.Path.{◌≡◌}
use Prim.Native.Nat.{◌-◌, ◌≤◌}
use lib.ListN.{drop}
use Rattle.model.specs.Octets.{value}
use Rattle.model.specs.Schema.{Schema}
use Rattle.model.specs.Rows.{has_id}
use Rattle.inner.specs.Working.{working}
use Rattle.rows.proofs.passed.Given as goal

abbrev pub invariant-loop-i : goal.invariant-loop-i
invariant-loop-i l = (l.i ≤ l.n) × ((s : Schema) → has_id (value l.id) (working s l.n l.rows) ≡ has_id (value l.id) (drop l.i (working s l.n l.rows)))

abbrev pub decreases-loop-i : goal.decreases-loop-i
decreases-loop-i l = l.n - l.i
