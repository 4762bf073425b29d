-- The order of integers by sign and magnitude. Assumes nothing.
use mathlib.Core.Path.{◌≡◌, refl, sym}
use mathlib.Core.Bool.{true, false}
use Prim.Native.Nat.{ℕ, zero, suc}
use native.Mathlib.Omega.{arith}
use borrow.Author.Tests.{le-leb, lt-leb}
use lib.Dec.{leb, leb-suc-suc}
use lib.Signed.{le_z}
use Rattle.model.specs.declared.Whole.TheVariants.{Plus, Minus, Other}
use Rattle.model.specs.Whole.{whole_int}

pub plus_plus : (m n : ℕ) → leb m n ≡ le_z (whole_int (Plus m)) (whole_int (Plus n))
unfolding whole_int
plus_plus m n = refl

pub plus_other : (m : ℕ) → leb m 0 ≡ le_z (whole_int (Plus m)) (whole_int Other)
unfolding whole_int
plus_other m = refl

pub plus_none : (m n : ℕ) → n ≡ 0 → leb m 0 ≡ le_z (whole_int (Plus m)) (whole_int (Minus n))
unfolding whole_int
plus_none m n h = rw h

pub plus_minus : (m n : ℕ) → (n ≡ 0 → ⊥) → false ≡ le_z (whole_int (Plus m)) (whole_int (Minus n))
unfolding whole_int
plus_minus m zero h = absurd (h refl)
plus_minus m (suc n) h = refl

pub minus_plus : (m n : ℕ) → true ≡ le_z (whole_int (Minus m)) (whole_int (Plus n))
unfolding whole_int
minus_plus zero n = sym (le-leb 0 n (omega arith))
minus_plus (suc m) n = refl

pub minus_other : (m : ℕ) → true ≡ le_z (whole_int (Minus m)) (whole_int Other)
unfolding whole_int
minus_other zero = refl
minus_other (suc m) = refl

pub minus_minus : (m n : ℕ) → leb n m ≡ le_z (whole_int (Minus m)) (whole_int (Minus n))
unfolding whole_int
minus_minus zero zero = refl
minus_minus zero (suc n) = lt-leb (suc n) 0 (omega arith)
minus_minus (suc m) zero = le-leb 0 (suc m) (omega arith)
minus_minus (suc m) (suc n) = leb-suc-suc n m
