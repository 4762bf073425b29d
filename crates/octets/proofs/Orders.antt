-- Equality and order of byte strings, one byte after another. Assumes nothing.
use mathlib.Core.Path.{◌≡◌, refl, ap, ◌∙◌}
use mathlib.Core.List.{List, [], ◌∷◌}
use mathlib.Core.Bool.{Bool, true, false, ◌&&◌}
use Prim.Native.Nat.{ℕ, zero, suc, ◌+◌, ◌<◌, ◌%◌}
use native.Mathlib.Omega.{arith}
use lib.Dec.{eqb}
use lib.IntN.{pos, neg_ℤ}
use lib.ListN.{length}
use Rattle.std.specs.Ordering.{nat_cmp, is_lt}
use Rattle.std.specs.Cmp.Lexicographic.{slice_cmp}
use Rattle.std.proofs.lemmas.Bool.Decides.{nat_tests}
use Rattle.std.proofs.lemmas.Cmp.{same_from_slice_cmp}
use Rattle.model.specs.Octets.{twos, eq_bytes, lt_bytes}

and_false : (b : Bool) → (b && false) ≡ false
and_false true = refl
and_false false = refl

-- strings of different lengths differ
pub eq_length : (xs ys : List ℕ) → (length xs ≡ length ys → ⊥) → eq_bytes xs ys ≡ false
eq_length [] [] h = absurd (h refl)
eq_length [] (y ∷ ys) h = refl
eq_length (x ∷ xs) [] h = refl
eq_length (x ∷ xs) (y ∷ ys) h = ap (λ (b : Bool). eqb x y && b) (eq_length xs ys (λ q. h (ap suc q))) ∙ and_false (eqb x y)

-- the library's order of slices is that of byte strings
pub lt_bytes_is : (xs ys : List ℕ) → is_lt (slice_cmp nat_cmp xs ys) ≡ lt_bytes xs ys
lt_bytes_is xs ys = same_from_slice_cmp nat_cmp is_lt lt_bytes refl (λ _ _. refl) (λ _ _. refl) (λ x y xs ys o h. grind (arith, nat_tests)) xs ys (slice_cmp nat_cmp xs ys) refl

-- two's complement of a number that is not positive, by its magnitude
pub twos_minus : (m r : ℕ) → r < 18446744073709551616 → (r + m) % 18446744073709551616 ≡ 0 → m < 18446744073709551616 → r ≡ twos 64 (neg_ℤ (pos m))
twos_minus zero r l e h = omega arith
twos_minus (suc k) r l e h = omega arith
