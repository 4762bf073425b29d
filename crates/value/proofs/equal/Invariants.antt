-- The loop of `value::equal`.
use mathlib.Core.Path.{◌≡◌}
use lib.ListN.{drop}
use Rattle.model.specs.Base.{eq_lists}
use Rattle.value.proofs.equal.Given as goal

abbrev pub invariant-loop-i : goal.invariant-loop-i
invariant-loop-i l = eq_lists l.l l.m ≡ eq_lists (drop l.i l.l) (drop l.i l.m)
