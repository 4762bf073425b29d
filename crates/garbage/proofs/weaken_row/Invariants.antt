-- The loop of `garbage::weaken_row`.
use Prim.Native.Nat.{◌≤◌}
use Rattle.catalog.specs.Accepted.{Accepted}
use Rattle.garbage.proofs.Weakly.{Turning}
use Rattle.garbage.proofs.weaken_row.Given as goal

abbrev pub invariant-loop-c : goal.invariant-loop-c
invariant-loop-c l = (l.c ≤ l.w) × ((ok : Accepted l.schema) → Turning l.schema ok l.n l.i l.initial.rows l.c l.rows)
