-- The loop of `rows::find_by_fours`.
use mathlib.Core.Path.{◌≡◌}
use mathlib.Core.Bool.{false}
use mathlib.Core.List.{[]}
use Prim.Native.Nat.{ℕ, ◌-◌, ◌≤◌, ◌<◌}
use lib.Dec.{eqb}
use lib.ListN.{get_or}
use Rattle.inner.specs.Working.{key_in}
use Rattle.rows.specs.Post.{key_of_halves}
use Rattle.rows.proofs.find_by_fours.Given as goal

abbrev pub invariant-loop-i : goal.invariant-loop-i
invariant-loop-i l = (l.from ≤ l.i) × (l.i ≤ l.to) × ((j : ℕ) → l.from ≤ j → j < l.i → eqb (key_of_halves l.table l.high l.low) (key_in (get_or l.rows j [])) ≡ false)

abbrev pub decreases-loop-i : goal.decreases-loop-i
decreases-loop-i l = l.to - l.i
