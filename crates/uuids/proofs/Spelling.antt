-- The characters of an id read into two halves. Assumes nothing.
use Rattle.std.specs.Prelude.{Option, Some, None}
use mathlib.Core.Path.{◌≡◌, refl, sym, ap, subst, ◌∙◌}
use mathlib.Core.Bool.{true, false}
use mathlib.Core.List.{List, [], ◌∷◌, ◌++◌}
use Prim.Native.Nat.{ℕ, zero, suc, ◌+◌, ◌*◌, ◌/◌, ◌%◌, ◌^◌, ◌<◌}
use native.Mathlib.Nat.{div-div-eq-div-mul, mod-lt}
use native.Mathlib.Numerals.{add-one}
use native.Mathlib.Omega.{arith}
use lib.Dec.{eqb, ltb, lit<}
use lib.ListN.{length, drop, get_or, drop_of_length-le}
use lib.Seq.{drop-cons}
use borrow.Author.Tests.{ne_eqb, ltb-true}
use Rattle.model.specs.Octets.{big}
use Rattle.model.specs.Strings.{hex_of}
use Rattle.model.specs.Written.{is_dash, uuid_from}
use Rattle.model.proofs.Tests.{split}
use Rattle.model.proofs.Octets.{length_big, big_octets, value_big, value_inj}
use Rattle.uuids.specs.Ids.{shifted, spelt, Spells}

-- ── 16 bytes as two halves ──
big_mod : (w x y : ℕ) → x % 256 ^ w ≡ y % 256 ^ w → big w x ≡ big w y
big_mod w x y h = value_inj (big w x) (big w y) (length_big w x ∙ sym (length_big w y)) (big_octets w x) (big_octets w y) (value_big w x ∙ h ∙ sym (value_big w y))

-- the bytes above the lower eight
upper : ℕ → ℕ → List ℕ
upper zero x = []
upper (suc w) x = (x / (18446744073709551616 * 256 ^ w) % 256) ∷ upper w x

upper_is : (w x : ℕ) → upper w x ≡ big w (x / 18446744073709551616)
unfolding upper
upper_is zero x = refl
upper_is (suc w) x =
    ap (λ (n : ℕ). (n % 256) ∷ upper w x) (sym (div-div-eq-div-mul x 18446744073709551616 (256 ^ w)))
    ∙ ap (λ (l : List ℕ). (x / 18446744073709551616 / 256 ^ w % 256) ∷ l) (upper_is w x)

big_halves : (x : ℕ) → big 16 x ≡ big 8 (x / 18446744073709551616) ++ big 8 x
unfolding upper
big_halves x = ap (λ (l : List ℕ). l ++ big 8 x) (upper_is 8 x)

-- a number whose last 128 bits are two halves
pub record Halves (i high low : ℕ) : Type 0 where
  pub rest : ℕ
  pub over : ℕ
  pub whole : i ≡ rest * 18446744073709551616 + low
  pub top : rest ≡ over * 18446744073709551616 + high
  pub small : low < 18446744073709551616

quot : (l : ℕ) → l < 18446744073709551616 → l / 1152921504606846976 < 16
quot l h = omega arith

room : (x y : ℕ) → x < 1152921504606846976 → y < 16 → x * 16 + y < 18446744073709551616
room x y p q = omega arith

pub shift_fits : (high low : ℕ) → low < 18446744073709551616 → high % 1152921504606846976 * 16 + low / 1152921504606846976 < 18446744073709551616
shift_fits high low h = room (high % 1152921504606846976) (low / 1152921504606846976) (mod-lt high {m = 1152921504606846976} (lit< tt)) (quot low h)

halves_big : {i high low : ℕ} → Halves i high low → big 16 i ≡ big 8 high ++ big 8 low
halves_big {i} {high} {low} h =
    let q : i / 18446744073709551616 ≡ h.rest = omega (arith, h.whole, h.small) in
    big_halves i
    ∙ ap (λ (n : ℕ). big 8 n ++ big 8 i) q
    ∙ ap (λ (l : List ℕ). l ++ big 8 i) (big_mod 8 h.rest high (omega (arith, h.top)))
    ∙ ap (λ (l : List ℕ). big 8 high ++ l) (big_mod 8 i low (omega (arith, h.whole)))

halves_on : {i high low : ℕ} (d : ℕ) → d < 16 → Halves i high low
    → Halves (i * 16 + d) (high % 1152921504606846976 * 16 + low / 1152921504606846976) (low % 1152921504606846976 * 16 + d)
halves_on {i} {high} {low} d l h = record {
  rest = h.rest * 16 + low / 1152921504606846976;
  over = h.over * 16 + high / 1152921504606846976;
  whole = omega (arith, h.whole, h.small);
  top = omega (arith, h.top);
  small = omega arith;
}

-- ── one character after another ──
module _ (at i b : ℕ) (bs : List ℕ) where
  dash_on : is_dash at ≡ true → eqb b 45 ≡ true → uuid_from at i (b ∷ bs) ≡ uuid_from (suc at) i bs
  dash_on d e = rw (uuid_from, d, e)

  dash_off : is_dash at ≡ true → eqb b 45 ≡ false → uuid_from at i (b ∷ bs) ≡ None
  dash_off d e = rw (uuid_from, d, e)

  digit_on : is_dash at ≡ false → ltb (hex_of b) 16 ≡ true → uuid_from at i (b ∷ bs) ≡ uuid_from (suc at) (i * 16 + hex_of b) bs
  digit_on d e = rw (uuid_from, d, e)

  digit_off : is_dash at ≡ false → ltb (hex_of b) 16 ≡ false → uuid_from at i (b ∷ bs) ≡ None
  digit_off d e = rw (uuid_from, d, e)

module _ (high low at b : ℕ) where
  pub spelt_dash : is_dash at ≡ true → eqb b 45 ≡ true → spelt (Some (high, low)) at b ≡ Some (high, low)
  unfolding spelt
  spelt_dash d e = rw (spelt, d, e)

  pub spelt_other : is_dash at ≡ true → eqb b 45 ≡ false → spelt (Some (high, low)) at b ≡ None
  unfolding spelt
  spelt_other d e = rw (spelt, d, e)

  pub spelt_digit : is_dash at ≡ false → ltb (hex_of b) 16 ≡ true → spelt (Some (high, low)) at b ≡ shifted high low (hex_of b)
  unfolding spelt
  spelt_digit d e = rw (spelt, d, e)

  pub spelt_none : is_dash at ≡ false → ltb (hex_of b) 16 ≡ false → spelt (Some (high, low)) at b ≡ None
  unfolding spelt
  spelt_none d e = rw (spelt, d, e)

pub spelt_bad : (at b : ℕ) → spelt None at b ≡ None
unfolding spelt
spelt_bad at b = refl

-- what was spelt before `at`
unfoldable pub Sofar : List ℕ → ℕ → Option (ℕ × ℕ) → Type 0
Sofar t at (Some (high, low)) = (i : ℕ) × (uuid_from 0 0 t ≡ uuid_from at i (drop at t)) × Halves i high low
Sofar t at None = uuid_from 0 0 t ≡ None

pub sofar_start : (t : List ℕ) → Sofar t 0 (Some (0, 0))
unfolding Sofar
sofar_start t = (0, refl, record { rest = 0; over = 0; whole = refl; top = refl; small = omega arith })

pub sofar_on : (t : List ℕ) (at : ℕ) (i : Option (ℕ × ℕ)) → at < length t → Sofar t at i → Sofar t (at + 1) (spelt i at (get_or t at 0))
unfolding Sofar spelt shifted
sofar_on t at None h s = s
sofar_on t at (Some (high, low)) h s = split (is_dash at)
    (λ d. split (eqb b 45)
    (λ e. subst (Sofar t (at + 1)) (sym (spelt_dash high low at b d e)) (s.0, step ∙ dash_on at s.0 b rest d e ∙ further s.0, s.2))
    (λ e. subst (Sofar t (at + 1)) (sym (spelt_other high low at b d e)) (step ∙ dash_off at s.0 b rest d e)))
    (λ d. split (ltb (hex_of b) 16)
    (λ e. subst (Sofar t (at + 1)) (sym (spelt_digit high low at b d e)) (s.0 * 16 + hex_of b, step ∙ digit_on at s.0 b rest d e ∙ further (s.0 * 16 + hex_of b), halves_on (hex_of b) (ltb-true (hex_of b) 16 e) s.2))
    (λ e. subst (Sofar t (at + 1)) (sym (spelt_none high low at b d e)) (step ∙ digit_off at s.0 b rest d e)))
  where
    b : ℕ
    b = get_or t at 0

    rest : List ℕ
    rest = drop (suc at) t

    step : uuid_from 0 0 t ≡ uuid_from at s.0 (b ∷ rest)
    step = s.1 ∙ ap (uuid_from at s.0) (drop-cons t at 0 h)

    further : (i : ℕ) → uuid_from (suc at) i rest ≡ uuid_from (at + 1) i (drop (at + 1) t)
    further i = ap (λ (n : ℕ). uuid_from n i (drop n t)) (sym (add-one at))

pub sofar_end : (t : List ℕ) (at : ℕ) (i : Option (ℕ × ℕ)) → length t ≡ 36 → at ≡ 36 → Sofar t at i → Spells i (uuid_from 0 0 t)
unfolding Sofar Spells
sofar_end t at None n e s = s
sofar_end t at (Some (high, low)) n e s =
    let z : drop at t ≡ [] = drop_of_length-le t {i = at} (omega arith) in
    (s.0, s.1 ∙ ap (uuid_from at s.0) z ∙ ap (λ (k : ℕ). uuid_from k s.0 []) e, halves_big s.2)

-- other lengths spell none
pub not_36 : (at i : ℕ) (t : List ℕ) → (at + length t ≡ 36 → ⊥) → uuid_from at i t ≡ None
not_36 at i [] n = rw (uuid_from, ne_eqb at 36 (λ e. n (omega (arith, e))))
not_36 at i (b ∷ bs) n = go (not_36 (suc at) i bs m) (not_36 (suc at) (i * 16 + hex_of b) bs m)
  where
    m : suc at + length bs ≡ 36 → ⊥
    m q = n (omega (arith, q))

    go : uuid_from (suc at) i bs ≡ None → uuid_from (suc at) (i * 16 + hex_of b) bs ≡ None → uuid_from at i (b ∷ bs) ≡ None
    go p q = split (is_dash at)
        (λ d. split (eqb b 45) (λ e. dash_on at i b bs d e ∙ p) (λ e. dash_off at i b bs d e))
        (λ d. split (ltb (hex_of b) 16) (λ e. digit_on at i b bs d e ∙ q) (λ e. digit_off at i b bs d e))
