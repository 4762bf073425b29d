-- The loop of `area::put_row`.
use mathlib.Core.Path.{◌≡◌}
use mathlib.Core.List.{◌++◌}
use Prim.Native.Nat.{◌*◌}
use lib.ListN.{length, take, drop}
use Rattle.model.specs.Base.{flat}
use Rattle.area.proofs.put_row.Given as goal

abbrev pub invariant-loop-j : goal.invariant-loop-j
invariant-loop-j l = (length (flat (take l.j l.row)) ≡ 25 * l.j) × (l.out ≡ flat (take l.j l.row) ++ drop (25 * l.j) l.initial.out)
