-- Texts, byte by byte: UTF-8 and the count of characters. Assumes nothing.
use Rattle.std.specs.Prelude.{None}
use mathlib.Core.Path.{◌≡◌, refl, sym, ap, ◌∙◌}
use mathlib.Core.Bool.{Bool, true, false, not, ◌&&◌}
use mathlib.Core.List.{List, [], ◌∷◌}
use mathlib.Core.Logic.{inl, inr}
use Prim.Native.Nat.{ℕ, zero, suc, ◌+◌, ◌≤◌, ◌<◌}
use native.Mathlib.Numerals.{add-one}
use native.Mathlib.Omega.{arith}
use lib.Dec.{eqb, ltb, leb}
use lib.ListN.{length, drop, get_or, drop_of_length-le}
use lib.Seq.{drop-cons}
use borrow.Author.Tests.{ne_eqb, lt-ltb, le-ltb, le-leb, lt-leb, ltb-true, ltb-false, eqb-false}
use mir.Val.{bool_byte}
use Rattle.model.specs.Strings.{Range, in_range, forms, rest_of}
use Rattle.model.specs.Text.{begins, chars}
use Rattle.model.specs.Value.{utf8_from}
use Rattle.model.proofs.Tests.{split}
use Rattle.model.proofs.Utf8.{Lead, one, two, three_low, three, three_cut, three_high, four_low, four, four_high, lead_at, no_lead, rest_of_lem}
use Rattle.atom.specs.Bytes.{due_ranges, more_after, fits_at, due_after, low_after, high_after}
use Rattle.leaf.specs.Bytes.{second_low, second_high}

-- what follows a byte that fits, and that nothing follows one that does not
abbrev goes_on : Bool → ℕ → ℕ → ℕ → List ℕ → Bool
goes_on true k low high bs = utf8_from (due_ranges k low high) bs
goes_on false k low high bs = false

abbrev after : ℕ → ℕ → ℕ → ℕ → List ℕ → Bool
after k low high b bs = goes_on (fits_at k low high b) (due_after k b) (low_after k b) (high_after k b) bs

-- what a lead byte asks for
low_bound : (b : ℕ) → (b ≡ 224 → ⊥) → (b ≡ 240 → ⊥) → second_low b ≡ 128
unfolding second_low
low_bound b m n = rw (second_low, ne_eqb b 224 m, ne_eqb b 240 n)

high_bound : (b : ℕ) → (b ≡ 237 → ⊥) → (b ≡ 244 → ⊥) → second_high b ≡ 191
unfolding second_high
high_bound b m n = rw (second_high, ne_eqb b 237 m, ne_eqb b 244 n)

abbrev Due : ℕ → List Range → Type 0
Due b xs = (m : ℕ) × (more_after b ≡ m) × (eqb m 4 ≡ false) × (xs ≡ due_ranges m (second_low b) (second_high b))

due_of : {b : ℕ} {xs : List Range} → Lead b xs → (b ≡ 0 → ⊥) → Due b xs
unfolding more_after second_low second_high
due_of {b} (one h) n = (0, rw (more_after, ne_eqb b 0 n, lt-ltb b 128 (omega arith)), refl, refl)
due_of {b} (two l h) n =
    (1, rw (more_after, ne_eqb b 0 n, le-ltb b 128 (omega arith), le-ltb b 194 l, lt-ltb b 224 (omega arith)), refl, rw (low_bound b (λ z. omega arith) (λ z. omega arith), high_bound b (λ z. omega arith) (λ z. omega arith)))
due_of (three_low e) n = (2, rw e, refl, rw e)
due_of {b} (three l h) n = (
  2,
  rw (more_after, ne_eqb b 0 n, le-ltb b 128 (omega arith), le-ltb b 194 (omega arith), le-ltb b 224 (omega arith), lt-ltb b 240 (omega arith)),
  refl,
  rw (low_bound b (λ z. omega arith) (λ z. omega arith), high_bound b (λ z. omega arith) (λ z. omega arith)),
)
due_of (three_cut e) n = (2, rw e, refl, rw e)
due_of {b} (three_high l h) n = (
  2,
  rw (more_after, ne_eqb b 0 n, le-ltb b 128 (omega arith), le-ltb b 194 (omega arith), le-ltb b 224 (omega arith), lt-ltb b 240 (omega arith)),
  refl,
  rw (low_bound b (λ z. omega arith) (λ z. omega arith), high_bound b (λ z. omega arith) (λ z. omega arith)),
)
due_of (four_low e) n = (3, rw e, refl, rw e)
due_of {b} (four l h) n = (
  3,
  rw (more_after, ne_eqb b 0 n, le-ltb b 128 (omega arith), le-ltb b 194 (omega arith), le-ltb b 224 (omega arith), le-ltb b 240 (omega arith), lt-ltb b 245 (omega arith)),
  refl,
  rw (low_bound b (λ z. omega arith) (λ z. omega arith), high_bound b (λ z. omega arith) (λ z. omega arith)),
)
due_of (four_high e) n = (3, rw e, refl, rw e)

module _ (low high b : ℕ) (bs : List ℕ) where
  lead : (m : ℕ) → more_after b ≡ m → eqb m 4 ≡ false → after 0 low high b bs ≡ utf8_from (due_ranges m (second_low b) (second_high b)) bs
  unfolding fits_at due_after low_after high_after
  lead m e n = rw (fits_at, due_after, e, n)

  stop : more_after b ≡ 4 → after 0 low high b bs ≡ false
  unfolding fits_at
  stop e = rw (fits_at, e)

  lead_step : {xs : List Range} → eqb b 0 ≡ false → Lead b xs → utf8_from [] (b ∷ bs) ≡ after 0 low high b bs
  lead_step {xs} a l =
      let d = due_of l (eqb-false b 0 a) in
      rw (utf8_from, a, rest_of_lem l) (ap (λ (ys : List Range). utf8_from ys bs) d.3 ∙ sym (lead d.0 d.1 d.2))

  stop_step : eqb b 0 ≡ false → rest_of b forms ≡ None → more_after b ≡ 4 → utf8_from [] (b ∷ bs) ≡ after 0 low high b bs
  stop_step a r m = rw (utf8_from, a, r) (sym (stop m))

  first_step : utf8_from [] (b ∷ bs) ≡ after 0 low high b bs
  unfolding more_after
  first_step = split (eqb b 0) (λ a. rw (utf8_from, a) (sym (stop (rw (more_after, a)))))
      (λ a. split (ltb b 128) (λ c. lead_step a (one (omega (arith, ltb-true b 128 c))))
      (λ c. split (ltb b 194) (λ d. stop_step a (no_lead b (inl (ltb-false b 128 c, ltb-true b 194 d))) (rw (more_after, a, c, d)))
      (λ d. split (ltb b 245) (λ g. lead_step a (lead_at b (ltb-false b 194 d) (omega (arith, ltb-true b 245 g))).1)
      (λ g. let k = ltb-false b 245 g in
      stop_step a (no_lead b (inr k)) (rw (more_after, a, c, d, le-ltb b 224 (omega arith), le-ltb b 240 (omega arith), g))))))

module _ (k low high b : ℕ) (bs : List ℕ) where
  due : eqb (suc k) 0 ≡ false
  due = ne_eqb (suc k) 0 (λ e. omega arith)

  fits_more : fits_at (suc k) low high b ≡ (leb low b && leb b high)
  unfolding fits_at
  fits_more = rw (fits_at, due)

  due_less : due_after (suc k) b ≡ k
  unfolding due_after
  due_less = rw (due_after, due) (omega arith)

  bounds : (low_after (suc k) b ≡ 128) × (high_after (suc k) b ≡ 191)
  unfolding low_after high_after
  bounds = (rw (low_after, due), rw (high_after, due))

  more_step : utf8_from (due_ranges (suc k) low high) (b ∷ bs) ≡ after (suc k) low high b bs
  unfolding in_range
  more_step = rw (fits_more, due_less, bounds.0, bounds.1) (split (leb low b && leb b high) (λ e. rw e) (λ e. rw e))

utf8_step : (k low high b : ℕ) (bs : List ℕ) → utf8_from (due_ranges k low high) (b ∷ bs) ≡ after k low high b bs
utf8_step zero low high b bs = first_step low high b bs
utf8_step (suc k) low high b bs = more_step k low high b bs

module _ (t : List ℕ) (i k low high : ℕ) where
  pub utf8_on : i < length t → fits_at k low high (get_or t i 0) ≡ true
      → utf8_from (due_ranges k low high) (drop i t) ≡ utf8_from (due_ranges (due_after k (get_or t i 0)) (low_after k (get_or t i 0)) (high_after k (get_or t i 0))) (drop (i + 1) t)
  utf8_on h e = rw (drop-cons t i 0 h, add-one i) (utf8_step k low high (get_or t i 0) (drop (suc i) t) ∙ rw e)

  pub utf8_off : i < length t → fits_at k low high (get_or t i 0) ≡ false → utf8_from (due_ranges k low high) (drop i t) ≡ false
  utf8_off h e = rw (drop-cons t i 0 h) (utf8_step k low high (get_or t i 0) (drop (suc i) t) ∙ rw e)

  pub utf8_end : length t ≤ i → utf8_from (due_ranges k low high) (drop i t) ≡ eqb k 0
  utf8_end h = rw (drop_of_length-le t {i = i} h) (last k)
    where
      last : (k : ℕ) → utf8_from (due_ranges k low high) [] ≡ eqb k 0
      last zero = refl
      last (suc k) = sym (ne_eqb (suc k) 0 (λ e. omega arith))

-- a byte of ASCII where none is due
plain_fits : (low high b : ℕ) → 1 ≤ b → b < 128 → (fits_at 0 low high b ≡ true) × (due_after 0 b ≡ 0)
unfolding fits_at due_after more_after
plain_fits low high b n h =
    let z : eqb b 0 ≡ false = ne_eqb b 0 (λ e. omega arith) in
    (rw (fits_at, more_after, z, lt-ltb b 128 h), rw (due_after, more_after, z, lt-ltb b 128 h))

pub utf8_plain : (t : List ℕ) (i k low high : ℕ) → i < length t → k ≡ 0 → 1 ≤ get_or t i 0 → get_or t i 0 < 128
    → utf8_from (due_ranges k low high) (drop i t) ≡ utf8_from (due_ranges k low high) (drop (i + 1) t)
utf8_plain t i k low high h z n l =
    let b = get_or t i 0 in
    let p = plain_fits low high b n l in
    ap (λ (n : ℕ). utf8_from (due_ranges n low high) (drop i t)) z
    ∙ utf8_on t i 0 low high h p.0
    ∙ ap (λ (n : ℕ). utf8_from (due_ranges n (low_after 0 b) (high_after 0 b)) (drop (i + 1) t)) p.1
    ∙ ap (λ (n : ℕ). utf8_from (due_ranges n low high) (drop (i + 1) t)) (sym z)

-- one byte more counted: one in 80 to BF begins no character
pub chars_on : (t : List ℕ) (i n : ℕ) → i < length t
    → n + chars (drop i t) ≡ (n + bool_byte (not (leb 128 (get_or t i 0) && ltb (get_or t i 0) 192))) + chars (drop (i + 1) t)
unfolding chars begins
chars_on t i n h =
    let b = get_or t i 0 in
    rw (drop-cons t i 0 h, add-one i) (split (ltb b 128)
    (λ e. rw (chars, begins, e, lt-leb 128 b (ltb-true b 128 e)) (omega arith))
    (λ e. rw (chars, begins, e, le-leb 128 b (ltb-false b 128 e)) (split (ltb b 192) (λ f. rw f (omega arith)) (λ f. rw f (omega arith)))))

pub chars_end : (t : List ℕ) (i n : ℕ) → length t ≤ i → n + chars (drop i t) ≡ n
unfolding chars
chars_end t i n h = rw (drop_of_length-le t {i = i} h) (omega arith)

pub byte_small : (b : Bool) → bool_byte b ≤ 1
byte_small true = omega arith
byte_small false = omega arith
