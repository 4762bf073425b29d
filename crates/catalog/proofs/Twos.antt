-- The order of integers as that of 64 bits of two's complement, and the limits of a type that has none. Assumes nothing.
use mathlib.Core.Path.{◌≡◌, refl, sym, ap, ◌∙◌}
use mathlib.Core.Bool.{true, false, not}
use Prim.Native.Nat.{ℕ, ◌+◌, ◌-◌, ◌^◌, ◌≤◌, ◌<◌}
use native.Mathlib.Omega.{arith}
use lib.Dec.{ltb, leb}
use lib.Signed.{lt_z, le_z}
use Rattle.std.proofs.lemmas.Bool.Decides.{nat_tests}
use borrow.Author.Tests.{lt-ltb, le-ltb, ltb-true, ltb-false, leb-true}
use Rattle.model.specs.Octets.{twos}
use Rattle.model.specs.SchemaText.{least, greatest}
use Rattle.model.specs.Value.{from_twos}
use Rattle.model.proofs.Tests.{split, clash}
use Rattle.model.proofs.Signed.{le_z_is}
use Rattle.leaf.specs.Bytes.{halves}

-- two tests of an order that go together
ltb_same : (a b c d : ℕ) → (a < b → c < d) → (b ≤ a → d ≤ c) → ltb a b ≡ ltb c d
ltb_same a b c d f g = split (ltb a b) (λ e. e ∙ sym (lt-ltb c d (f (ltb-true a b e)))) (λ e. e ∙ sym (le-ltb c d (g (ltb-false a b e))))

halves_less : (x y : ℕ) → x < 18446744073709551616 → y < 18446744073709551616 → ltb (halves x) (halves y) ≡ lt_z (from_twos x) (from_twos y)
unfolding halves
halves_less x y h g = split (ltb x 9223372036854775808)
    (λ e. let a = ltb-true x 9223372036854775808 e in split (ltb y 9223372036854775808)
    (λ f. rw (halves, e, f) (ltb_same (x + 9223372036854775808) (y + 9223372036854775808) x y (λ p. omega arith) (λ p. omega arith)))
    (λ f. let b = ltb-false y 9223372036854775808 f in rw (halves, e, f) (le-ltb (x + 9223372036854775808) (y - 9223372036854775808) (omega arith))))
    (λ e. let a = ltb-false x 9223372036854775808 e in split (ltb y 9223372036854775808)
    (λ f. rw (halves, e, f) (lt-ltb (x - 9223372036854775808) (y + 9223372036854775808) (omega arith)))
    (λ f.
    let b = ltb-false y 9223372036854775808 f in
    rw (halves, e, f) (ltb_same (x - 9223372036854775808) (y - 9223372036854775808) (18446744073709551615 - y) (18446744073709551615 - x) (λ p. omega arith) (λ p. omega arith))))

pub at_most_is : (x y : ℕ) → x < 18446744073709551616 → y < 18446744073709551616 → leb (halves x) (halves y) ≡ le_z (from_twos x) (from_twos y)
at_most_is x y h g =
    let e : leb (halves x) (halves y) ≡ not (ltb (halves y) (halves x)) = grind (arith, nat_tests) in
    e ∙ ap not (halves_less y x g h) ∙ sym (le_z_is (from_twos x) (from_twos y))

-- 64 bits as an integer and back
pub twos_back : (z : ℕ) → z < 256 ^ 8 → twos 64 (from_twos z) ≡ z
twos_back z l = split (ltb z 9223372036854775808) (λ e. rw e) (λ e. rw e (omega (arith, ltb-false z 9223372036854775808 e)))

-- the one that is at most the least, and the one that is at least the greatest
pub least_is : (x : ℕ) → x < 256 ^ 8 → le_z (from_twos x) least ≡ true → x ≡ 9223372036854775808
least_is x h g =
    split
    (ltb x 9223372036854775808)
    (λ e. absurd (clash false (rw e at g) refl))
    (λ e. let k : leb 9223372036854775807 (18446744073709551615 - x) ≡ true = rw e at g in
    omega (arith, ltb-false x 9223372036854775808 e, leb-true 9223372036854775807 (18446744073709551615 - x) k))

pub greatest_is : (x : ℕ) → x < 256 ^ 8 → le_z greatest (from_twos x) ≡ true → x ≡ 9223372036854775807
greatest_is x h g =
    split
    (ltb x 9223372036854775808)
    (λ e. let k : leb 9223372036854775807 x ≡ true = rw e at g in omega (arith, ltb-true x 9223372036854775808 e, leb-true 9223372036854775807 x k))
    (λ e. absurd (clash false (rw e at g) refl))
