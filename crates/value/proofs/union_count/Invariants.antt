-- The loop of `value::union_count`.
use Rattle.std.proofs.Common.{◌≡◌, ◌+◌, ◌≤◌, length, take}
use Rattle.model.specs.Schema.{Base}
use Rattle.model.specs.Value.{union}
use Rattle.value.proofs.union_count.Given as goal

abbrev pub invariant-loop-i : goal.invariant-loop-i
invariant-loop-i l = (l.n ≤ length l.l + l.i) × ((k : Base) → l.n ≡ length (union k l.l (take l.i l.more)))
