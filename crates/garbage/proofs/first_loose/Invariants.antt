-- The loop of `garbage::first_loose`.
use mathlib.Core.Path.{◌≡◌}
use Prim.Native.Nat.{◌≤◌}
use lib.ListN.{drop}
use Rattle.model.specs.Commit.{first_loose}
use Rattle.model.specs.Catalog.{packed_tables}
use Rattle.inner.specs.Working.{working}
use Rattle.garbage.proofs.first_loose.Given as goal

abbrev pub invariant-loop-i : goal.invariant-loop-i
invariant-loop-i l = (l.i ≤ l.n) × (first_loose (packed_tables l.schema) (working (packed_tables l.schema) l.n l.rows) (working (packed_tables l.schema) l.n l.rows) ≡ first_loose (packed_tables l.schema) (working (packed_tables l.schema) l.n l.rows) (drop l.i (working (packed_tables l.schema) l.n l.rows)))
