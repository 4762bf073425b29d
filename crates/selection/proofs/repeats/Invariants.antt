-- The loop of `selection::repeats`.
use mathlib.Core.Path.{◌≡◌}
use mathlib.Core.List.{[]}
use Prim.Native.Nat.{◌≤◌}
use lib.ListN.{get_or}
use Rattle.selection.specs.Picks.{repeated}
use Rattle.selection.proofs.repeats.Given as goal

abbrev pub invariant-loop-j : goal.invariant-loop-j
invariant-loop-j l = (l.j ≤ l.i) × (repeated l.flags l.k l.marks l.rows (get_or l.rows l.i []) l.i ≡ repeated l.flags l.k l.marks l.rows (get_or l.rows l.i []) l.j)
