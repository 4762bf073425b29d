-- The loop of `area::put_catalog`.
use mathlib.Core.Path.{◌≡◌}
use mathlib.Core.List.{◌++◌}
use Prim.Native.Nat.{◌*◌}
use lib.ListN.{length, take, drop}
use Rattle.model.specs.Base.{flat}
use Rattle.area.proofs.put_catalog.Given as goal

abbrev pub invariant-loop-j : goal.invariant-loop-j
invariant-loop-j l = (length (flat (take l.j l.catalog)) ≡ 48 * l.j) × (l.out ≡ flat (take l.j l.catalog) ++ drop (48 * l.j) l.initial.out)
