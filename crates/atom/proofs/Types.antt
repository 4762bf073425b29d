-- Base types by their numbers, and the order of integers as that of 64 bits. Assumes nothing.
use mathlib.Core.Path.{◌≡◌, sym, ◌∙◌}
use Prim.Native.Nat.{ℕ, ◌+◌, ◌-◌, ◌≤◌, ◌<◌}
use native.Mathlib.Omega.{arith}
use lib.Dec.{ltb}
use lib.Signed.{lt_z}
use borrow.Author.Tests.{ne_eqb, lt-ltb, le-ltb, ltb-true, ltb-false}
use Rattle.model.specs.Schema.{integer, boolean, text, uuid}
use Rattle.model.specs.Catalog.{base_numbered}
use Rattle.model.specs.Value.{from_twos}
use Rattle.model.proofs.Tests.{split}
use Rattle.leaf.specs.Bytes.{halves}

pub base_integer : (k : ℕ) → k ≡ 0 → base_numbered k ≡ integer
unfolding base_numbered
base_integer k h = rw h

pub base_boolean : (k : ℕ) → k ≡ 1 → base_numbered k ≡ boolean
unfolding base_numbered
base_boolean k h = rw h

pub base_text : (k : ℕ) → k ≡ 2 → base_numbered k ≡ text
unfolding base_numbered
base_text k h = rw h

pub base_uuid : (k : ℕ) → (k ≡ 0 → ⊥) → (k ≡ 1 → ⊥) → (k ≡ 2 → ⊥) → base_numbered k ≡ uuid
unfolding base_numbered
base_uuid k a b c = rw (base_numbered, ne_eqb k 0 a, ne_eqb k 1 b, ne_eqb k 2 c)

-- two tests of an order that go together
ltb_same : (a b c d : ℕ) → (a < b → c < d) → (b ≤ a → d ≤ c) → ltb a b ≡ ltb c d
ltb_same a b c d f g = split (ltb a b) (λ e. e ∙ sym (lt-ltb c d (f (ltb-true a b e)))) (λ e. e ∙ sym (le-ltb c d (g (ltb-false a b e))))

pub halves_less : (x y : ℕ) → x < 18446744073709551616 → y < 18446744073709551616 → ltb (halves x) (halves y) ≡ lt_z (from_twos x) (from_twos y)
unfolding halves
halves_less x y h g = split (ltb x 9223372036854775808)
    (λ e. let a = ltb-true x 9223372036854775808 e in split (ltb y 9223372036854775808)
    (λ f. rw (halves, e, f) (ltb_same (x + 9223372036854775808) (y + 9223372036854775808) x y (λ p. omega arith) (λ p. omega arith)))
    (λ f. let b = ltb-false y 9223372036854775808 f in rw (halves, e, f) (le-ltb (x + 9223372036854775808) (y - 9223372036854775808) (omega arith))))
    (λ e. let a = ltb-false x 9223372036854775808 e in split (ltb y 9223372036854775808)
    (λ f. rw (halves, e, f) (lt-ltb (x - 9223372036854775808) (y + 9223372036854775808) (omega arith)))
    (λ f.
    let b = ltb-false y 9223372036854775808 f in
    rw (halves, e, f) (ltb_same (x - 9223372036854775808) (y - 9223372036854775808) (18446744073709551615 - y) (18446744073709551615 - x) (λ p. omega arith) (λ p. omega arith))))
