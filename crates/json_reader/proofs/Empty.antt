-- A table of zeros says nothing, and so nothing untrue. Assumes nothing.
use mathlib.Core.Path.{◌≡◌, refl}
use mathlib.Core.Logic.{inl}
use mathlib.Core.List.{List}
use Prim.Native.Nat.{ℕ, zero, suc}
use lib.ListN.{get_or, replicate}
use Rattle.inner.specs.Positions.{Says}

all_zero : (n p : ℕ) → ◌≡◌ {A = ℕ} (get_or (replicate n 0) p 0) 0
all_zero zero p = refl
all_zero (suc n) zero = refl
all_zero (suc n) (suc p) = all_zero n p

pub says_nothing : (s : List ℕ) (n : ℕ) → Says s (replicate n 0)
unfolding Says
says_nothing s n p = inl (all_zero n p)
