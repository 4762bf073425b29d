-- Arithmetic by signs and magnitudes, and which results are outside 64 bits. Assumes nothing.
use mathlib.Core.Path.{◌≡◌, refl, sym, ap, ◌∙◌}
use mathlib.Core.Bool.{Bool, true, false, not, beq, ◌&&◌}
use Prim.Native.Nat.{ℕ, zero, suc, ◌+◌, ◌-◌, ◌*◌, ◌/◌, ◌%◌, ◌≤◌, ◌<◌}
use native.Mathlib.Nat.{mul-one, mul-zero, zero-mul, zero-div, zero-mod}
use native.Mathlib.Omega.{arith}
use borrow.Author.Tests.{ne_eqb, eq-eqb, eqb-true, eqb-false, lt-ltb, le-ltb, ltb-true, ltb-false, lt-leb, le-leb, leb-true, leb-false, not-true}
use lib.Dec.{eqb, ltb, leb}
use lib.IntN.{ℤ, pos, negsuc, neg_ℤ, nat_abs, sub_ℕ, ◌+ℤ◌, ◌*ℤ◌, neg_ℤ-neg_ℤ, neg_ℤ-+ℤ, +ℤ_comm, zero-*ℤ}
use lib.Signed.{quot_z, rem_z}
use Rattle.model.specs.Mutations.{is_zero, in64}
use Rattle.model.specs.declared.Mutator.TheVariants.{Divide, Remainder}
use Rattle.model.proofs.Tests.{split, and_l, and_r}
use Rattle.integers.specs.declared.Exact.TheVariants.{Number, ByZero, Outside}
use Rattle.integers.specs.Ints.{signed, as_int, fitted, calculated}

-- ── outside 64 bits ──
in_minus : (n : ℕ) → in64 (neg_ℤ (pos n)) ≡ leb n 9223372036854775808
in_minus zero = refl
in_minus (suc n) = split (leb n 9223372036854775807)
    (λ e. rw (e, le-leb (suc n) 9223372036854775808 (omega (arith, leb-true n 9223372036854775807 e))))
    (λ e. rw (e, lt-leb (suc n) 9223372036854775808 (omega (arith, leb-false n 9223372036854775807 e))))

out_big : (a : Bool) (n : ℕ) → 9223372036854775808 < n → in64 (signed a n) ≡ false
unfolding signed
out_big true n h = in_minus n ∙ lt-leb n 9223372036854775808 h
out_big false n h = lt-leb n 9223372036854775807 (omega arith)

pub fit_big : (a : Bool) (n : ℕ) → 9223372036854775808 < n → fitted (signed a n) ≡ Outside
unfolding fitted
fit_big a n h = rw (fitted, out_big a n h)

pub fit_edge : (a : Bool) (n : ℕ) → (not a && eqb n 9223372036854775808) ≡ true → fitted (signed a n) ≡ Outside
unfolding fitted signed
fit_edge a n h =
    let p : a ≡ false = not-true a (and_l (not a) (eqb n 9223372036854775808) h) in
    let q : n ≡ 9223372036854775808 = eqb-true n 9223372036854775808 (and_r (not a) (eqb n 9223372036854775808) h) in
    rw (p, q)

in_small : (a : Bool) (n : ℕ) → n ≤ 9223372036854775808 → (not a && eqb n 9223372036854775808) ≡ false → in64 (signed a n) ≡ true
unfolding signed
in_small true n l h = in_minus n ∙ le-leb n 9223372036854775808 l
in_small false n l h = let d = eqb-false n 9223372036854775808 h in le-leb n 9223372036854775807 (omega arith)

pub fit_small : (a : Bool) (n : ℕ) → n ≤ 9223372036854775808 → (not a && eqb n 9223372036854775808) ≡ false → fitted (signed a n) ≡ Number (as_int (signed a n))
unfolding fitted
fit_small a n l h = rw (fitted, in_small a n l h)

-- ── sums ──
pub sign_not : (b : Bool) (n : ℕ) → signed (not b) n ≡ neg_ℤ (signed b n)
unfolding signed
sign_not true n = sym (neg_ℤ-neg_ℤ (pos n))
sign_not false n = refl

same_sign : (a b : Bool) → beq a b ≡ true → b ≡ a
same_sign true true h = refl
same_sign true false h = h
same_sign false true h = sym h
same_sign false false h = refl

other_sign : (a b : Bool) → beq a b ≡ false → b ≡ not a
other_sign true true h = h
other_sign true false h = refl
other_sign false true h = refl
other_sign false false h = sym h

pub sum_same : (a b : Bool) (m n : ℕ) → beq a b ≡ true → signed a m +ℤ signed b n ≡ signed a (m + n)
unfolding signed
sum_same a b m n h = ap (λ (s : Bool). signed a m +ℤ signed s n) (same_sign a b h) ∙ go a
  where
    go : (a : Bool) → signed a m +ℤ signed a n ≡ signed a (m + n)
    go true = sym (neg_ℤ-+ℤ (pos m) (pos n))
    go false = refl

by_sub : (m n : ℕ) → pos m +ℤ neg_ℤ (pos n) ≡ sub_ℕ m n
by_sub m zero = rw (le-ltb m 0 (omega arith)) (let e : m + 0 ≡ m - 0 = omega arith in ap pos e)
by_sub m (suc n) = refl

sub_up : (m n : ℕ) → m < n → pos m +ℤ neg_ℤ (pos n) ≡ neg_ℤ (pos (n - m))
sub_up m n h =
    let e : n - m ≡ suc (n - suc m) = omega arith in
    by_sub m n ∙ rw (lt-ltb m n h, e)

sub_down : (m n : ℕ) → n ≤ m → pos m +ℤ neg_ℤ (pos n) ≡ pos (m - n)
sub_down m n h = by_sub m n ∙ rw (le-ltb m n h)

sub_up_le : (m n : ℕ) → m ≤ n → pos m +ℤ neg_ℤ (pos n) ≡ neg_ℤ (pos (n - m))
sub_up_le m n h = split (ltb m n)
    (λ e. sub_up m n (ltb-true m n e))
    (λ e.
    let l = ltb-false m n e in
    let p : m - n ≡ 0 = omega arith in
    let q : n - m ≡ 0 = omega arith in
    sub_down m n l ∙ rw (p, q))

pub sum_up : (a b : Bool) (m n : ℕ) → beq a b ≡ false → m < n → signed a m +ℤ signed b n ≡ signed b (n - m)
unfolding signed
sum_up a b m n h l = ap (λ (s : Bool). signed a m +ℤ signed s n) (other_sign a b h) ∙ go a ∙ ap (λ (s : Bool). signed s (n - m)) (sym (other_sign a b h))
  where
    go : (a : Bool) → signed a m +ℤ signed (not a) n ≡ signed (not a) (n - m)
    go true = +ℤ_comm (neg_ℤ (pos m)) (pos n) ∙ sub_down n m (omega arith)
    go false = sub_up m n l

pub sum_down : (a b : Bool) (m n : ℕ) → beq a b ≡ false → n ≤ m → signed a m +ℤ signed b n ≡ signed a (m - n)
unfolding signed
sum_down a b m n h l = ap (λ (s : Bool). signed a m +ℤ signed s n) (other_sign a b h) ∙ go a
  where
    go : (a : Bool) → signed a m +ℤ signed (not a) n ≡ signed a (m - n)
    go true = +ℤ_comm (neg_ℤ (pos m)) (pos n) ∙ sub_up_le n m l
    go false = sub_down m n l

-- ── products, quotients, remainders ──
neg_zero : (n : ℕ) → n ≡ 0 → neg_ℤ (pos n) ≡ pos n
neg_zero n e = rw e

pub times : (a b : Bool) (m n : ℕ) → signed a m *ℤ signed b n ≡ signed (not (beq a b)) (m * n)
unfolding signed
times false false m n = refl
times false true m zero = sym (neg_zero (m * 0) (mul-zero m))
times false true m (suc n) = refl
times true false zero n = sym (neg_zero (0 * n) (zero-mul n))
times true false (suc m) n = refl
times true true zero n = zero-*ℤ (neg_ℤ (pos n)) ∙ ap pos (sym (zero-mul n))
times true true (suc m) zero = neg_zero (suc m * 0) (mul-zero (suc m))
times true true (suc m) (suc n) = refl

pub over : (a b : Bool) (m n : ℕ) → (n ≡ 0 → ⊥) → quot_z (signed a m) (signed b n) ≡ signed (not (beq a b)) (m / n)
unfolding signed
over a b m zero h = absurd (h refl)
over false false m (suc n) h = refl
over false true m (suc n) h = refl
over true false zero (suc n) h = sym (neg_zero (0 / suc n) (zero-div (suc n)))
over true false (suc m) (suc n) h = refl
over true true zero (suc n) h = neg_zero (0 / suc n) (zero-div (suc n))
over true true (suc m) (suc n) h = refl

size_of : (b : Bool) (n : ℕ) → nat_abs (signed b n) ≡ n
unfolding signed
size_of true zero = refl
size_of true (suc n) = refl
size_of false n = refl

pub rest : (a b : Bool) (m n : ℕ) → rem_z (signed a m) (signed b n) ≡ signed a (m % n)
unfolding signed
rest a b m n = go a m (signed b n) ∙ ap (λ (k : ℕ). signed a (m % k)) (size_of b n)
  where
    go : (a : Bool) (m : ℕ) (d : ℤ) → rem_z (signed a m) d ≡ signed a (m % nat_abs d)
    go true zero d = sym (neg_zero (0 % nat_abs d) (zero-mod (nat_abs d)))
    go true (suc m) d = refl
    go false m d = refl

-- ── by scale 1 ──
pub times_one : (z : ℤ) → z *ℤ pos 1 ≡ z
times_one (pos n) = ap pos (mul-one n)
times_one (negsuc n) = ap (λ (k : ℕ). neg_ℤ (pos k)) (mul-one (suc n))

pub zero_sign : (b : Bool) (n : ℕ) → is_zero (signed b n) ≡ eqb n 0
unfolding signed
zero_sign true zero = refl
zero_sign true (suc n) = sym (ne_eqb (suc n) 0 (λ e. omega arith))
zero_sign false n = refl

-- ── the mutators ──
module _ (x y : ℤ) where
  by_divide : is_zero y ≡ false → calculated Divide x y ≡ fitted (quot_z x y)
  unfolding calculated
  by_divide h = rw (calculated, h) (ap (λ (z : ℤ). fitted (quot_z z y)) (times_one x))

  by_remainder : is_zero y ≡ false → calculated Remainder x y ≡ fitted (rem_z x y)
  unfolding calculated
  by_remainder h = rw (calculated, h)

  by_zero : is_zero y ≡ true → (calculated Divide x y ≡ ByZero) × (calculated Remainder x y ≡ ByZero)
  unfolding calculated
  by_zero h = (rw (calculated, h), rw (calculated, h))

module _ (a b : Bool) (m n : ℕ) where
  pub zero_divide : n ≡ 0 → calculated Divide (signed a m) (signed b n) ≡ ByZero
  zero_divide h = (by_zero (signed a m) (signed b n) (zero_sign b n ∙ eq-eqb n 0 h)).0

  pub zero_remainder : n ≡ 0 → calculated Remainder (signed a m) (signed b n) ≡ ByZero
  zero_remainder h = (by_zero (signed a m) (signed b n) (zero_sign b n ∙ eq-eqb n 0 h)).1

  pub quotient_is : (n ≡ 0 → ⊥) → calculated Divide (signed a m) (signed b n) ≡ fitted (signed (not (beq a b)) (m / n))
  quotient_is h = by_divide (signed a m) (signed b n) (zero_sign b n ∙ ne_eqb n 0 h) ∙ ap fitted (over a b m n h)

  pub remainder_is : (n ≡ 0 → ⊥) → calculated Remainder (signed a m) (signed b n) ≡ fitted (signed a (m % n))
  remainder_is h = by_remainder (signed a m) (signed b n) (zero_sign b n ∙ ne_eqb n 0 h) ∙ ap fitted (rest a b m n)
