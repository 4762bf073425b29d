-- The loop of `marks::is_sized`.
use mathlib.Core.Path.{◌≡◌}
use mathlib.Core.Bool.{true}
use mathlib.Core.List.{List}
use Prim.Native.Nat.{ℕ}
use lib.Dec.{eqb}
use lib.ListN.{length, drop}
use Rattle.model.specs.Base.{all}
use Rattle.marks.proofs.is_sized.Given as goal

abbrev pub invariant-loop-x : goal.invariant-loop-x
invariant-loop-x l = (l.ok ≡ true) × (all (λ (x : List ℕ). eqb (length x) 25) l.xs ≡ all (λ (x : List ℕ). eqb (length x) 25) (drop l.x-index l.xs))
