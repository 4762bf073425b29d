-- Versions, byte by byte. Assumes nothing.
use mathlib.Core.Path.{◌≡◌, refl, sym, ap, ◌∙◌}
use mathlib.Core.List.{List, ◌∷◌}
use mathlib.Core.Bool.{Bool, true, false, ◌&&◌}
use Prim.Native.Nat.{ℕ, zero, suc, ◌+◌, ◌-◌, ◌<◌, ◌≤◌}
use native.Mathlib.Numerals.{add-one}
use native.Mathlib.Omega.{arith}
use borrow.Author.Tests.{le-leb, eq-eqb, ne_eqb}
use lib.Dec.{eqb, leb}
use lib.ListN.{length, get_or, drop, drop_of_length-le}
use lib.Seq.{drop-cons}
use Rattle.std.specs.Char.{is_ascii_digit}
use Rattle.std.proofs.lemmas.Bool.Decides.{nat_tests}
use Rattle.model.specs.Scan.{is_digit}
use Rattle.model.specs.SchemaText.{version_from}

-- std's word for the same test of a byte
pub digit_is : (b : ℕ) → is_ascii_digit b ≡ is_digit b
unfolding is_digit
digit_is b = grind (arith, nat_tests)

module _ (t : List ℕ) (i : ℕ) where
  -- one more element, at the code's next index
  next : i < length t → drop i t ≡ get_or t i 0 ∷ drop (i + 1) t
  next h = drop-cons t i 0 h ∙ ap (λ (k : ℕ). get_or t i 0 ∷ drop k t) (sym (add-one i))

  module _ (d : ℕ) (s : Bool) where
    pub version_digit : i < length t → is_digit (get_or t i 0) ≡ true → version_from d s (drop i t) ≡ version_from d true (drop (i + 1) t)
    unfolding version_from
    version_digit h e = rw (next h, version_from, e)

    -- a byte that is no digit: the dot that is due, or none
    version_other : i < length t → is_digit (get_or t i 0) ≡ false → version_from d s (drop i t) ≡ elim (eqb (get_or t i 0) 46 && s && leb 1 d) [ true ↦ version_from (d - 1) false (drop (i + 1) t) | false ↦ false ]
    unfolding version_from
    version_other h e = rw (next h, version_from, e)

    pub version_dot : i < length t → is_digit (get_or t i 0) ≡ false → get_or t i 0 ≡ 46 → s ≡ true → (d ≡ 0 → ⊥) → version_from d s (drop i t) ≡ version_from (d - 1) false (drop (i + 1) t)
    version_dot h e b q n = version_other h e ∙ rw (eq-eqb (get_or t i 0) 46 b, q, le-leb 1 d (positive d n))
      where
        positive : (d : ℕ) → (d ≡ 0 → ⊥) → 1 ≤ d
        positive zero n = absurd (n refl)
        positive (suc d) n = omega arith

    pub version_byte : i < length t → is_digit (get_or t i 0) ≡ false → (get_or t i 0 ≡ 46 → ⊥) → version_from d s (drop i t) ≡ false
    version_byte h e b = version_other h e ∙ rw (ne_eqb (get_or t i 0) 46 b)

    pub version_spent : i < length t → is_digit (get_or t i 0) ≡ false → d ≡ 0 → version_from d s (drop i t) ≡ false
    version_spent h e z = version_other h e ∙ (let q : leb 1 d ≡ false = rw z in rw q (no (eqb (get_or t i 0) 46 && s)))
      where
        no : (b : Bool) → (elim (b && false) [ true ↦ version_from (d - 1) false (drop (i + 1) t) | false ↦ false ]) ≡ false
        no true = refl
        no false = refl

    pub version_unseen : i < length t → is_digit (get_or t i 0) ≡ false → s ≡ false → version_from d s (drop i t) ≡ false
    version_unseen h e q = version_other h e ∙ rw q (no (eqb (get_or t i 0) 46))
      where
        no : (b : Bool) → (elim (b && false && leb 1 d) [ true ↦ version_from (d - 1) false (drop (i + 1) t) | false ↦ false ]) ≡ false
        no true = refl
        no false = refl

    pub version_end : length t ≤ i → version_from d s (drop i t) ≡ (s && eqb d 0)
    unfolding version_from
    version_end h = rw (drop_of_length-le t h)
