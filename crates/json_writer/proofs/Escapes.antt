-- A byte of a string in an answer, case by case; an integer by its 64 bits. Assumes nothing.
use mathlib.Core.Path.{◌≡◌, refl, sym, ap, ◌∙◌}
use mathlib.Core.Logic.{◌⊎◌, inl, inr}
use mathlib.Core.List.{List, [], ◌∷◌, ◌++◌}
use Prim.Native.Nat.{ℕ, ◌+◌, ◌-◌, ◌^◌, ◌<◌, ◌≤◌}
use native.Mathlib.Numerals.{add-one}
use lib.IntN.{pos, negsuc}
use lib.ListN.{take}
use borrow.Author.Tests.{lt-ltb, le-ltb, ne_eqb}
use Rattle.model.specs.Octets.{value}
use Rattle.model.specs.Value.{from_twos}
use Rattle.model.specs.Answers.{escaped, hex_pair, integer_text, decimal}
use Rattle.json_writer.specs.Texts.{decimal_text, integer_in, escaped_text}

module _ (b : ℕ) where
  pub escaped_self : (b ≡ 34) ⊎ (b ≡ 92) → (92 ∷ b ∷ []) ≡ escaped_text b
  unfolding escaped_text
  escaped_self (inl e) = rw e refl
  escaped_self (inr e) = rw e refl

  pub escaped_low : (b ≡ 34 → ⊥) → (b ≡ 92 → ⊥) → b < 32 → ((92 ∷ 117 ∷ 48 ∷ 48 ∷ []) ++ hex_pair b) ≡ escaped_text b
  unfolding escaped_text
  escaped_low n m l = rw (escaped, ne_eqb b 34 n, ne_eqb b 92 m, lt-ltb b 32 l) refl

  pub escaped_plain : (b ≡ 34 → ⊥) → (b ≡ 92 → ⊥) → 32 ≤ b → (b ∷ []) ≡ escaped_text b
  unfolding escaped_text
  escaped_plain n m l = rw (escaped, ne_eqb b 34 n, ne_eqb b 92 m, le-ltb b 32 l) refl

module _ (a : List ℕ) (x : ℕ) (e : x ≡ value (take 8 a)) where
  pub integer_plus : x < 9223372036854775808 → decimal_text x ≡ integer_in a
  unfolding decimal_text integer_in
  integer_plus l =
      let z : from_twos x ≡ pos x = rw (from_twos, lt-ltb x 9223372036854775808 l) refl in
      sym (ap integer_text z) ∙ ap (λ (n : ℕ). integer_text (from_twos n)) e

  pub integer_minus : 9223372036854775808 ≤ x → x < 2 ^ 64 → (45 ∷ decimal_text (18446744073709551615 - x + 1)) ≡ integer_in a
  unfolding decimal_text integer_in
  integer_minus l f =
      let z : from_twos x ≡ negsuc (18446744073709551615 - x) = rw (from_twos, le-ltb x 9223372036854775808 l) refl in
      ap (λ (n : ℕ). 45 ∷ decimal n) (add-one (18446744073709551615 - x)) ∙ sym (ap integer_text z) ∙ ap (λ (n : ℕ). integer_text (from_twos n)) e
