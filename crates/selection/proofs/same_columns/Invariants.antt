-- The loop of `selection::same_columns`.
use mathlib.Core.Path.{◌≡◌}
use Prim.Native.Nat.{◌-◌, ◌≤◌}
use Rattle.selection.specs.Picks.{same_from}
use Rattle.selection.proofs.same_columns.Given as goal

abbrev pub invariant-loop-c : goal.invariant-loop-c
invariant-loop-c l = (l.c ≤ l.k) × (same_from l.flags l.x l.y 0 l.k ≡ same_from l.flags l.x l.y l.c (l.k - l.c))
