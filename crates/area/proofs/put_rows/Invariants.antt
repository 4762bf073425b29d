-- The loop of `area::put_rows`.
use mathlib.Core.Path.{◌≡◌}
use mathlib.Core.List.{◌++◌}
use Prim.Native.Nat.{◌*◌}
use lib.ListN.{length, take, drop}
use Rattle.area.specs.Layout.{bytes_of}
use Rattle.area.proofs.put_rows.Given as goal

abbrev pub invariant-loop-i : goal.invariant-loop-i
invariant-loop-i l = (length (bytes_of (take l.i l.rows)) ≡ 625 * l.i) × (l.out ≡ bytes_of (take l.i l.rows) ++ drop (625 * l.i) l.initial.out)
