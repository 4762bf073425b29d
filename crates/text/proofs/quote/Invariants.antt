-- The loop of `text::quote`.
use mathlib.Core.Path.{◌≡◌}
use Prim.Native.Nat.{◌-◌, ◌≤◌}
use Rattle.inner.specs.Positions.{quote_from}
use Rattle.text.proofs.quote.Given as goal

abbrev pub invariant-loop-k : goal.invariant-loop-k
invariant-loop-k l = (l.k ≤ l.k-end) × (quote_from l.text l.k-end l.at ≡ quote_from l.text (l.k-end - l.k) l.i)

abbrev pub decreases-loop-k : goal.decreases-loop-k
decreases-loop-k l = l.k-end - l.k
