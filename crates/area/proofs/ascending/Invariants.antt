-- The loop of `area::ascending`.
use mathlib.Core.Path.{◌≡◌}
use Prim.Native.Nat.{◌-◌}
use lib.ListN.{drop}
use Rattle.model.specs.Schema.{Schema}
use Rattle.model.specs.Areas.{ascends}
use Rattle.inner.specs.Working.{working}
use Rattle.area.proofs.ascending.Given as goal

abbrev pub invariant-loop-i : goal.invariant-loop-i
invariant-loop-i l = (s : Schema) → ascends (working s l.n l.rows) ≡ ascends (drop (l.i - 1) (working s l.n l.rows))
