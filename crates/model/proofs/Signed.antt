-- The order of the integers, and integers of 64 bits through their bytes. Assumes nothing.
use mathlib.Core.Path.{◌≡◌, refl, sym, ◌∙◌, ap}
use mathlib.Core.Bool.{Bool, true, false, not, ◌&&◌}
use Prim.Native.Nat.{ℕ, suc, ◌-◌, ◌^◌, ◌≤◌, ◌<◌}
use native.Mathlib.Omega.{arith}
use borrow.Author.Tests.{leb-true, leb-false, ltb-true, ltb-false, lt-ltb, le-ltb, le-leb}
use lib.Dec.{ltb, leb}
use lib.IntN.{ℤ, pos, negsuc}
use lib.Signed.{lt_z, le_z}
use Rattle.model.specs.Octets.{twos}
use Rattle.model.specs.Value.{from_twos, int_of, int_atom}
use Rattle.model.proofs.Tests.{split, clash, and_l}
use Rattle.model.proofs.Octets.{value_big_fits}

-- ── the order ──
pub lt_z_irrefl : (a : ℤ) → lt_z a a ≡ false
lt_z_irrefl (pos a) = le-ltb a a (omega arith)
lt_z_irrefl (negsuc a) = le-ltb a a (omega arith)

pub lt_z_trans : (a b c : ℤ) → lt_z a b ≡ true → lt_z b c ≡ true → lt_z a c ≡ true
lt_z_trans (pos a) (pos b) (pos c) h k = lt-ltb a c (omega (arith, ltb-true a b h, ltb-true b c k))
lt_z_trans (pos a) (pos b) (negsuc c) h k = k
lt_z_trans (pos a) (negsuc b) c h k = absurd (clash false h refl)
lt_z_trans (negsuc a) (pos b) (pos c) h k = refl
lt_z_trans (negsuc a) (pos b) (negsuc c) h k = absurd (clash false k refl)
lt_z_trans (negsuc a) (negsuc b) (pos c) h k = refl
lt_z_trans (negsuc a) (negsuc b) (negsuc c) h k = lt-ltb c a (omega (arith, ltb-true b a h, ltb-true c b k))

-- neither is less only of an integer and itself
pub lt_z_same : (a b : ℤ) → lt_z a b ≡ false → lt_z b a ≡ false → a ≡ b
lt_z_same (pos a) (pos b) h k = let e : a ≡ b = omega (arith, ltb-false a b h, ltb-false b a k) in ap pos e
lt_z_same (pos a) (negsuc b) h k = absurd (clash true refl k)
lt_z_same (negsuc a) (pos b) h k = absurd (clash true refl h)
lt_z_same (negsuc a) (negsuc b) h k = let e : a ≡ b = omega (arith, ltb-false a b k, ltb-false b a h) in ap negsuc e

-- one is at most the other exactly where the other is not less
pub le_z_is : (a b : ℤ) → le_z a b ≡ not (lt_z b a)
le_z_is (pos a) (pos b) = split (leb a b)
    (λ e. rw (e, le-ltb b a (leb-true a b e)))
    (λ e. rw (e, lt-ltb b a (leb-false a b e)))
le_z_is (pos a) (negsuc b) = refl
le_z_is (negsuc a) (pos b) = refl
le_z_is (negsuc a) (negsuc b) = split (leb b a)
    (λ e. rw (e, le-ltb a b (leb-true b a e)))
    (λ e. rw (e, lt-ltb a b (leb-false b a e)))

pub le_z_refl : (a : ℤ) → le_z a a ≡ true
le_z_refl (pos a) = le-leb a a (omega arith)
le_z_refl (negsuc a) = le-leb a a (omega arith)

pub le_z_trans : (a b c : ℤ) → le_z a b ≡ true → le_z b c ≡ true → le_z a c ≡ true
le_z_trans (pos a) (pos b) (pos c) h k = le-leb a c (omega (arith, leb-true a b h, leb-true b c k))
le_z_trans (pos a) (pos b) (negsuc c) h k = k
le_z_trans (pos a) (negsuc b) c h k = absurd (clash false h refl)
le_z_trans (negsuc a) (pos b) (pos c) h k = refl
le_z_trans (negsuc a) (pos b) (negsuc c) h k = absurd (clash false k refl)
le_z_trans (negsuc a) (negsuc b) (pos c) h k = refl
le_z_trans (negsuc a) (negsuc b) (negsuc c) h k = le-leb c a (omega (arith, leb-true b a h, leb-true c b k))

pub lt_z_le_z : (a b : ℤ) → lt_z a b ≡ true → le_z a b ≡ true
lt_z_le_z (pos a) (pos b) h = le-leb a b (omega (arith, ltb-true a b h))
lt_z_le_z (pos a) (negsuc b) h = h
lt_z_le_z (negsuc a) (pos b) h = refl
lt_z_le_z (negsuc a) (negsuc b) h = le-leb b a (omega (arith, ltb-true b a h))

-- ── 64 bits ──
-- the integers that 64 bits of two's complement hold
abbrev pub fits64 : ℤ → Bool
fits64 z = le_z (negsuc 9223372036854775807) z && le_z z (pos 9223372036854775807)

pub twos_fits : (z : ℤ) → fits64 z ≡ true → (from_twos (twos 64 z) ≡ z) × (twos 64 z < 256 ^ 8)
twos_fits (pos n) h =
    let l = leb-true n 9223372036854775807 h in
    (rw (lt-ltb n 9223372036854775808 (omega arith)), omega arith)
twos_fits (negsuc n) h =
    let l : n ≤ 9223372036854775807 = leb-true n 9223372036854775807 (and_l (leb n 9223372036854775807) true h) in
    let e : 18446744073709551615 - (18446744073709551616 - suc n) ≡ n = omega arith in
    (rw (le-ltb (18446744073709551616 - suc n) 9223372036854775808 (omega arith), e), omega arith)

-- the atom of an integer of 64 bits is read back as it: of every sum, difference, product, quotient and remainder that fits
pub int_of_int_atom : (z : ℤ) → fits64 z ≡ true → int_of (int_atom z) ≡ z
int_of_int_atom z h = ap from_twos (value_big_fits 8 (twos 64 z) (twos_fits z h).1) ∙ (twos_fits z h).0

-- what 64 bits hold fits
pub from_twos_fits : (x : ℕ) → x < 256 ^ 8 → fits64 (from_twos x) ≡ true
from_twos_fits x h = split (ltb x 9223372036854775808)
    (λ e. rw (e, le-leb x 9223372036854775807 (omega (arith, ltb-true x 9223372036854775808 e))))
    (λ e. rw (e, le-leb (18446744073709551615 - x) 9223372036854775807 (omega (arith, ltb-false x 9223372036854775808 e))))

pub from_twos_inj : (x y : ℕ) → x < 256 ^ 8 → y < 256 ^ 8 → from_twos x ≡ from_twos y → x ≡ y
from_twos_inj x y h g e = sym (back x h) ∙ ap (twos 64) e ∙ back y g
  where
    back : (z : ℕ) → z < 256 ^ 8 → twos 64 (from_twos z) ≡ z
    back z l = split (ltb z 9223372036854775808) (λ e. rw e) (λ e. rw e (omega (arith, ltb-false z 9223372036854775808 e)))
