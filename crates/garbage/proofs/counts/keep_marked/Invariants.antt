-- The loop of `garbage::counts::keep_marked`.
use mathlib.Core.Path.{◌≡◌}
use Prim.Native.Nat.{◌≤◌}
use lib.ListN.{length, take}
use Rattle.garbage.specs.Counts.{left}
use Rattle.garbage.proofs.Marking.{split_at}
use Rattle.garbage.proofs.counts.keep_marked.Given as goal

abbrev pub invariant-loop-j : goal.invariant-loop-j
invariant-loop-j l = (l.m ≤ l.j) × (l.j ≤ l.n) × (length l.rows ≡ length l.initial.rows) × (split_at l.m l.j l.n l.marks l.rows ≡ left (take l.n l.initial.rows) l.marks)
