-- The loop of `rows::find_from`.
use mathlib.Core.Path.{◌≡◌}
use mathlib.Core.Bool.{false}
use mathlib.Core.List.{[]}
use Prim.Native.Nat.{ℕ, ◌≤◌, ◌<◌}
use lib.Dec.{eqb}
use lib.ListN.{get_or}
use Rattle.inner.specs.Working.{key_in}
use Rattle.rows.specs.Post.{key_of_halves}
use Rattle.rows.proofs.find_from.Given as goal

abbrev pub invariant-loop-i : goal.invariant-loop-i
invariant-loop-i l = (j : ℕ) → l.from ≤ j → j < l.i → eqb (key_of_halves l.table l.high l.low) (key_in (get_or l.rows j [])) ≡ false
