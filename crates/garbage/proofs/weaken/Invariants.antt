-- The loop of `garbage::weaken`.
use Prim.Native.Nat.{◌≤◌}
use lib.ListN.{length}
use Rattle.model.specs.Catalog.{packed_tables}
use Rattle.garbage.proofs.Partly.{Going}
use Rattle.garbage.proofs.weaken.Given as goal

abbrev pub invariant-loop-i : goal.invariant-loop-i
invariant-loop-i l = (l.i ≤ l.n) × ((h : l.n ≤ length l.initial.rows) → Going (packed_tables l.schema) l.n l.initial.rows h l.i l.rows)
