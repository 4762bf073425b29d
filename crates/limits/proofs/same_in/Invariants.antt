-- The loop of `limits::same_in`.
use mathlib.Core.Path.{◌≡◌}
use mathlib.Core.Bool.{Bool}
use mathlib.Core.List.{List}
use Prim.Native.Nat.{ℕ}
use lib.ListN.{length, take, drop}
use Rattle.model.specs.Base.{all}
use Rattle.model.specs.Value.{same_value}
use Rattle.inner.specs.Working.{value_in}
use Rattle.limits.specs.Alike.{same_cells}
use Rattle.limits.proofs.same_in.Given as goal

-- two rows have the same value in a column
abbrev pub alike : List (List ℕ) → List (List ℕ) → ℕ → Bool
alike x y c = same_value (value_in c x) (value_in c y)

abbrev pub invariant-loop-c : goal.invariant-loop-c
invariant-loop-c l = same_cells l.index l.x l.y ≡ all (alike l.x l.y) (drop l.c-index (take (length l.index) l.index))
