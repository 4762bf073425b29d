-- The loop of `value::distinct`.
use Rattle.std.proofs.Common.{◌≡◌, drop}
use Rattle.model.specs.Base.{distinct}
use Rattle.value.proofs.distinct.Given as goal

abbrev pub invariant-loop-i : goal.invariant-loop-i
invariant-loop-i l = distinct l.l ≡ distinct (drop l.i l.l)
