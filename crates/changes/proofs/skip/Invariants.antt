-- The loop of `changes::skip`.
use mathlib.Core.Path.{◌≡◌}
use Prim.Native.Nat.{◌+◌, ◌-◌}
use lib.ListN.{drop}
use Rattle.model.specs.Schema.{Schema}
use Rattle.inner.specs.Working.{working, key_in}
use Rattle.area.specs.Layout.{rows_at}
use Rattle.changes.specs.Walk.{fore}
use Rattle.changes.proofs.skip.Given as goal

abbrev pub invariant-loop-k : goal.invariant-loop-k
invariant-loop-k l = (s : Schema) → fore (key_in l.row) (working s l.m (rows_at l.m l.area)) ≡ l.k + fore (key_in l.row) (drop l.k (working s l.m (rows_at l.m l.area)))

abbrev pub decreases-loop-k : goal.decreases-loop-k
decreases-loop-k l = l.m - l.k
