-- The loop of `selection::with_name`.
use Prim.Native.Nat.{◌≤◌}
use lib.ListN.{length}
use Rattle.inner.specs.Positions.{tree_at}
use Rattle.selection.proofs.Names.{Adding}
use Rattle.selection.proofs.with_name.Given as goal

abbrev pub invariant-loop-c : goal.invariant-loop-c
invariant-loop-c l = (l.c ≤ length l.columns) × Adding (tree_at l.text l.at) l.columns l.flags l.c l.more
