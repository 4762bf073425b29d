-- The loop of `value::ascending`.
use mathlib.Core.Path.{◌≡◌}
use Prim.Native.Nat.{◌-◌}
use lib.ListN.{drop}
use Rattle.model.specs.Catalog.{base_numbered}
use Rattle.value.proofs.Order.{chain}
use Rattle.value.proofs.ascending.Given as goal

abbrev pub invariant-loop-i : goal.invariant-loop-i
invariant-loop-i l = chain (base_numbered l.kind) l.l ≡ chain (base_numbered l.kind) (drop (l.i - 1) l.l)
