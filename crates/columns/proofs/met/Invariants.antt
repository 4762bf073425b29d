-- The loop of `columns::met`.
use mathlib.Core.Path.{◌≡◌}
use Prim.Native.Nat.{◌+◌}
use lib.ListN.{take, drop}
use Rattle.columns.specs.Parts.{met_at}
use Rattle.columns.proofs.met.Given as goal

abbrev pub invariant-loop-i : goal.invariant-loop-i
invariant-loop-i l = met_at l.name (take l.n l.names) ≡ l.i + met_at l.name (drop l.i (take l.n l.names))
