-- The loop of `changes::put_gones`.
use Prim.Native.Nat.{◌*◌, ◌≤◌}
use lib.ListN.{drop}
use Rattle.model.specs.Schema.{Schema}
use Rattle.model.specs.Records.{gones}
use Rattle.inner.specs.Working.{working}
use Rattle.area.specs.Layout.{rows_at}
use Rattle.changes.proofs.Writing.{Along}
use Rattle.changes.proofs.put_gones.Given as goal

abbrev pub invariant-loop-i : goal.invariant-loop-i
invariant-loop-i l = (l.i ≤ l.m) × ((s : Schema) → Along l.by.run l.by.number (gones (working s l.n l.after) (working s l.m (rows_at l.m l.area))) (26 * l.i) l.initial.to l.initial.records l.to l.records (gones (working s l.n l.after) (drop l.i (working s l.m (rows_at l.m l.area)))))
