-- The loop of `rows::narrowed`.
use Prim.Native.Nat.{◌+◌}
use Rattle.rows.specs.Post.{key_of_halves, Narrowed}
use Rattle.rows.proofs.narrowed.Given as goal

abbrev pub invariant-loop-len : goal.invariant-loop-len
invariant-loop-len l = Narrowed l.n (key_of_halves l.table l.high l.low) l.rows l.from (l.from + l.len)

abbrev pub decreases-loop-len : goal.decreases-loop-len
decreases-loop-len l = l.len
