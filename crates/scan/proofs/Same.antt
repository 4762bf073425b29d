-- The code's way with escapes and with characters of several bytes is that of the definitions. Assumes nothing.
use Rattle.std.specs.Prelude.{Ok, Err}
use Rattle.model.specs.declared.ReadError.TheVariants.{Stop, Deep}
use Rattle.std.specs.declared.ops.ControlFlow.TheVariants.{Continue}
use Rattle.model.specs.Scan.{Read}
use Rattle.scan.specs.Units.{Hex}
use mathlib.Core.Path.{◌≡◌, refl, sym, ap, subst, ◌∙◌}
use mathlib.Core.List.{List, []}
use mathlib.Core.Logic.{◌⊎◌, inl, inr}
use mathlib.Core.Bool.{Bool, true, false, not}
use Prim.Native.Nat.{ℕ, ◌+◌, ◌*◌, ◌%◌, ◌<◌, ◌≤◌}
use native.Mathlib.Omega.{arith}
use lib.Dec.{ltb, eqb}
use borrow.Author.Tests.{ltb-true, ltb-false, eqb-false, eqb-true, lt-ltb, le-ltb, ne_eqb}
use Rattle.scan.specs.declared.Half.TheVariants.{Whole, High}
use Rattle.model.specs.Scan.{byte, Parsed, within_at}
use Rattle.model.specs.Strings.{Range, ◌to◌, in_range, is_first_half, ranges_at, form_at, plain_by, hex_of, stopped_at, digit_by, digit_from, digit_at, tested_from, tested, no_digits, unit_at, second_at, second_from, paired, escaped_from, escaped_at, going}
use Rattle.scan.specs.Units.{hex_add, hex_step, outside, inside, hex_at, low_hex_at, half_of, low_from, low_at, pair_by, unit_by, wide_by}
use Rattle.leaf.specs.Bytes.{second_low, second_high}
use Rattle.model.proofs.Tests.{split}
use Rattle.model.proofs.Utf8.{in_range_lem, over_range, under_range, of_range, Lead, one, two, three_low, three, three_cut, three_high, four_low, four, four_high, lead_at, no_lead, rest_of_lem}
use Rattle.model.proofs.Escapes.{test_holds, test_fails}
use Rattle.model.proofs.TextUtf8.{hex_digit_lem, Number, First, unit_is, not_range}

-- ── digits ──
-- what the digits read so far are
abbrev pub parsed : Hex → Parsed ℕ
parsed (Ok (e, v)) = record { read = Ok e; tree = v }
parsed (Err e) = stopped_at e

abbrev BelowHex : ℕ → Hex → Type 0
BelowHex n (Ok (e, v)) = v < n
BelowHex n (Err e) = Unit

-- a test of the number so far, that it lies in a range or that it does not
outside_same : (low high : ℕ) (h : Hex) → parsed (outside low high h) ≡ tested (λ (v : ℕ). not (in_range (low to high) v)) (parsed h)
unfolding outside tested tested_from
outside_same low high (Err e) = refl
outside_same low high (Ok (e, v)) =
    let f : ℕ → Bool = λ v. not (in_range (low to high) v) in
    split (ltb v low)
    (λ t. rw (outside, t) (sym (test_holds f e v (ap not (under_range (low to high) v (ltb-true v low t))))))
    (λ t. split (ltb high v)
    (λ u. rw (outside, t, u) (sym (test_holds f e v (ap not (over_range (low to high) v (ltb-true high v u))))))
    (λ u. rw (outside, t, u) (sym (test_fails f e v (ap not (in_range_lem (low to high) v (ltb-false v low t) (ltb-false high v u)))))))

inside_same : (low high : ℕ) (h : Hex) → parsed (inside low high h) ≡ tested (in_range (low to high)) (parsed h)
unfolding inside tested tested_from
inside_same low high (Err e) = refl
inside_same low high (Ok (e, v)) =
    let f : ℕ → Bool = in_range (low to high) in
    split (ltb v low)
    (λ t. rw (inside, t) (sym (test_fails f e v (under_range (low to high) v (ltb-true v low t)))))
    (λ t. split (ltb high v)
    (λ u. rw (inside, t, u) (sym (test_fails f e v (over_range (low to high) v (ltb-true high v u)))))
    (λ u. rw (inside, t, u) (sym (test_holds f e v (in_range_lem (low to high) v (ltb-false v low t) (ltb-false high v u))))))

outside_below : (n low high : ℕ) (h : Hex) → BelowHex n h → BelowHex n (outside low high h)
unfolding outside
outside_below n low high (Err e) b = tt
outside_below n low high (Ok (e, v)) b = split (ltb v low) (λ t. rw (outside, t) b) (λ t. split (ltb high v) (λ u. rw (outside, t, u) b) (λ u. rw (outside, t, u) tt))

inside_below : (n low high : ℕ) (h : Hex) → BelowHex n h → BelowHex n (inside low high h)
unfolding inside
inside_below n low high (Err e) b = tt
inside_below n low high (Ok (e, v)) b = split (ltb v low) (λ t. rw (inside, t) tt) (λ t. split (ltb high v) (λ u. rw (inside, t, u) tt) (λ u. rw (inside, t, u) b))

-- one number is a range of its own
only : (n v : ℕ) → in_range (n to n) v ≡ eqb v n
only n v = split (eqb v n) (λ t. let e = eqb-true v n t in rw t (in_range_lem (n to n) v (omega arith) (omega arith))) (λ t. rw t (apart (eqb-false v n t)))
  where
    apart : (v ≡ n → ⊥) → in_range (n to n) v ≡ false
    apart ne = split (ltb v n) (λ u. under_range (n to n) v (ltb-true v n u)) (λ u. over_range (n to n) v (omega (arith, ltb-false v n u, ne)))

tested_by : (f g : ℕ → Bool) → ((v : ℕ) → f v ≡ g v) → (p : Parsed ℕ) → tested f p ≡ tested g p
unfolding tested tested_from
tested_by f g h p = go p.read
  where
    go : (r : Read) → tested_from f p.tree r ≡ tested_from g p.tree r
    go (Ok e) = rw (tested_from, h p.tree)
    go (Err e) = refl

module _ (s : List ℕ) where
  -- sixteen bits hold four digits
  step_same : (h : Hex) → BelowHex 4096 h → parsed (hex_step s h) ≡ digit_at s (parsed h)
  unfolding hex_step hex_add digit_at digit_from digit_by
  step_same (Err e) b = refl
  step_same (Ok (e, v)) b =
      let z : v % 4096 ≡ v = omega arith in
      split (eqb (hex_of (byte s e)) 16) (λ t. rw (hex_add, digit_by, t)) (λ t. rw (hex_add, digit_by, t, z))

  step_below : (n : ℕ) (h : Hex) → BelowHex n h → BelowHex (n * 16) (hex_step s h)
  unfolding hex_step hex_add
  step_below n (Err e) b = tt
  step_below n (Ok (e, v)) b =
      let d : ℕ = hex_of (byte s e) in
      split (eqb d 16) (λ t. rw (hex_add, t) tt) (λ t. rw (hex_add, t) (omega (arith, hex_digit_lem (byte s e), eqb-false d 16 t)))

  -- four digits, from the first
  pub unit_same : (at : ℕ) → parsed (hex_at s at) ≡ unit_at s at
  unit_same at =
      let f : ℕ → Bool = λ v. not (in_range (220 to 223) v) in
      let h0 : Hex = Ok (at, 0) in
      let h1 : Hex = hex_step s h0 in
      let h2 : Hex = hex_step s h1 in
      let h3 : Hex = outside 220 223 h2 in
      let h4 : Hex = hex_step s h3 in
      let h5 : Hex = hex_step s h4 in
      let b1 : BelowHex 16 h1 = step_below 1 h0 (omega arith) in
      let b2 : BelowHex 256 h2 = step_below 16 h1 b1 in
      let b3 : BelowHex 256 h3 = outside_below 256 220 223 h2 b2 in
      let b4 : BelowHex 4096 h4 = step_below 256 h3 b3 in
      let q2 : parsed h2 ≡ digit_at s (digit_at s (no_digits at)) = step_same h1 (below h1 16 (omega arith) b1) ∙ ap (digit_at s) (step_same h0 (omega arith)) in
      let q3 : parsed h3 ≡ tested f (digit_at s (digit_at s (no_digits at))) = outside_same 220 223 h2 ∙ ap (tested f) q2 in
      let q4 : parsed h4 ≡ digit_at s (tested f (digit_at s (digit_at s (no_digits at)))) = step_same h3 (below h3 256 (omega arith) b3) ∙ ap (digit_at s) q3 in
      let q5 : parsed h5 ≡ digit_at s (digit_at s (tested f (digit_at s (digit_at s (no_digits at))))) = step_same h4 b4 ∙ ap (digit_at s) q4 in
      outside_same 0 0 h5 ∙ tested_by (λ (v : ℕ). not (in_range (0 to 0) v)) (λ (v : ℕ). not (eqb v 0)) (λ v. ap not (only 0 v)) (parsed h5) ∙ ap (tested (λ (v : ℕ). not (eqb v 0))) q5
    where
      below : (h : Hex) (n : ℕ) → n ≤ 4096 → BelowHex n h → BelowHex 4096 h
      below (Ok (e, v)) n l b = omega arith
      below (Err e) n l b = tt

  second_same : (at : ℕ) → parsed (low_hex_at s at) ≡ second_at s at
  second_same at =
      let h0 : Hex = Ok (at, 0) in
      let h1 : Hex = hex_step s h0 in
      let h2 : Hex = inside 13 13 h1 in
      let h3 : Hex = hex_step s h2 in
      let h4 : Hex = inside 220 223 h3 in
      let h5 : Hex = hex_step s h4 in
      let b1 : BelowHex 16 h1 = step_below 1 h0 (omega arith) in
      let b2 : BelowHex 16 h2 = inside_below 16 13 13 h1 b1 in
      let b3 : BelowHex 256 h3 = step_below 16 h2 b2 in
      let b4 : BelowHex 256 h4 = inside_below 256 220 223 h3 b3 in
      let b5 : BelowHex 4096 h5 = step_below 256 h4 b4 in
      let g : ℕ → Bool = λ v. eqb v 13 in
      let q2 : parsed h2 ≡ tested g (digit_at s (no_digits at)) = inside_same 13 13 h1 ∙ tested_by (in_range (13 to 13)) g (only 13) (parsed h1) ∙ ap (tested g) (step_same h0 (omega arith)) in
      let q3 : parsed h3 ≡ digit_at s (tested g (digit_at s (no_digits at))) = step_same h2 (below h2 16 (omega arith) b2) ∙ ap (digit_at s) q2 in
      let q4 : parsed h4 ≡ tested (in_range (220 to 223)) (digit_at s (tested g (digit_at s (no_digits at)))) = inside_same 220 223 h3 ∙ ap (tested (in_range (220 to 223))) q3 in
      step_same h5 b5 ∙ ap (digit_at s) (step_same h4 (below h4 256 (omega arith) b4) ∙ ap (digit_at s) q4)
    where
      below : (h : Hex) (n : ℕ) → n ≤ 4096 → BelowHex n h → BelowHex 4096 h
      below (Ok (e, v)) n l b = omega arith
      below (Err e) n l b = tt

  low_same : (r : Read) → parsed (low_from s r) ≡ second_from s r
  unfolding low_from second_from
  low_same (Ok e) = second_same e
  low_same (Err (Stop e)) = refl
  low_same (Err (Deep e)) = refl

  pub second_half_same : (e : ℕ) → parsed (low_at s e) ≡ second_from s (within_at s 117 117 (within_at s 92 92 (Ok e)))
  second_half_same e = low_same (within_at s 117 117 (within_at s 92 92 (Ok e)))

  -- ── a \u escape ──
  pub high_half : (v : ℕ) → is_first_half v ≡ true → half_of v ≡ High
  unfolding half_of
  high_half v t =
      let r = of_range (55296 to 56319) v t in
      let l : 55296 ≤ v = r.0 in
      let h : v ≤ 56319 = r.1 in
      rw (half_of, ne_eqb v 0 (λ z. omega arith), le-ltb v 55296 l, lt-ltb v 56320 (omega arith))

  pub whole_unit : (v : ℕ) → is_first_half v ≡ false → First v → half_of v ≡ Whole
  unfolding half_of
  whole_unit v t (p, (l, a)) = go (not_range (55296 to 56319) v t) a
    where
      go : (v < 55296) ⊎ (56319 < v) → (v < 56320) ⊎ (57343 < v) → half_of v ≡ Whole
      go (inl h) b = rw (half_of, ne_eqb v 0 (λ z. omega arith), lt-ltb v 55296 h)
      go (inr h) (inl b) = absurd (omega arith)
      go (inr h) (inr b) = rw (half_of, ne_eqb v 0 (λ z. omega arith), le-ltb v 55296 (omega arith), le-ltb v 56320 (omega arith), le-ltb v 57344 (omega arith))

  pair_going : (v : ℕ) (h : Hex) → pair_by h ≡ going (paired v (parsed h)).read
  unfolding pair_by going paired
  pair_going v (Ok (e, w)) = refl
  pair_going v (Err e) = refl

  unit_going : (h : Hex) → Number First (parsed h) → unit_by s h ≡ going (escaped_from s (parsed h)).read
  unfolding unit_by escaped_from going in_range
  unit_going (Err e) f = refl
  unit_going (Ok (e, v)) f = split (is_first_half v)
      (λ t. rw (unit_by, high_half v t, escaped_from, t) (pair_going v (low_at s e) ∙ ap (λ p. going (paired v p).read) (second_half_same e)))
      (λ t. rw (unit_by, whole_unit v t f, escaped_from, t))

  pub escape_same : (at : ℕ) → unit_by s (hex_at s at) ≡ going (escaped_at s at).read
  escape_same at = unit_going (hex_at s at) (subst (Number First) (sym (unit_same at)) (unit_is s at)) ∙ ap (λ p. going (escaped_from s p).read) (unit_same at)

  -- ── a character as it stands ──
  low_bound : (b : ℕ) → (b ≡ 224 → ⊥) → (b ≡ 240 → ⊥) → second_low b ≡ 128
  unfolding second_low
  low_bound b m n = rw (second_low, ne_eqb b 224 m, ne_eqb b 240 n)

  high_bound : (b : ℕ) → (b ≡ 237 → ⊥) → (b ≡ 244 → ⊥) → second_high b ≡ 191
  unfolding second_high
  high_bound b m n = rw (second_high, ne_eqb b 237 m, ne_eqb b 244 n)

  wide_lead : (at : ℕ) {b : ℕ} {xs : List Range} → 128 ≤ b → Lead b xs → wide_by s at b ≡ ranges_at s xs (Ok (at + 1))
  unfolding wide_by second_low second_high ranges_at
  wide_lead at k (one h) = absurd (omega arith)
  wide_lead at {b} k (two l h) = rw (wide_by, le-ltb b 194 l, le-ltb 244 b (omega arith), lt-ltb b 224 (omega arith), low_bound b (λ z. omega arith) (λ z. omega arith), high_bound b (λ z. omega arith) (λ z. omega arith))
  wide_lead at k (three_low e) = rw e
  wide_lead at {b} k (three l h) =
      rw (wide_by, le-ltb b 194 (omega arith), le-ltb 244 b (omega arith), le-ltb b 224 (omega arith), lt-ltb b 240 (omega arith), low_bound b (λ z. omega arith) (λ z. omega arith), high_bound b (λ z. omega arith) (λ z. omega arith))
  wide_lead at k (three_cut e) = rw e
  wide_lead at {b} k (three_high l h) =
      rw (wide_by, le-ltb b 194 (omega arith), le-ltb 244 b (omega arith), le-ltb b 224 (omega arith), lt-ltb b 240 (omega arith), low_bound b (λ z. omega arith) (λ z. omega arith), high_bound b (λ z. omega arith) (λ z. omega arith))
  wide_lead at k (four_low e) = rw e
  wide_lead at {b} k (four l h) =
      rw (wide_by, le-ltb b 194 (omega arith), le-ltb 244 b (omega arith), le-ltb b 224 (omega arith), le-ltb b 240 (omega arith), low_bound b (λ z. omega arith) (λ z. omega arith), high_bound b (λ z. omega arith) (λ z. omega arith))
  wide_lead at k (four_high e) = rw e

  pub wide_same : (at b : ℕ) → 128 ≤ b → wide_by s at b ≡ plain_by s at b
  unfolding wide_by form_at
  wide_same at b k = split (ltb b 194) (λ t. rw (wide_by, t, no_lead b (inl (k, ltb-true b 194 t)))) (λ t.
      split (ltb 244 b) (λ u. rw (wide_by, t, u, no_lead b (inr (ltb-true 244 b u)))) (λ u.
      let x = lead_at b (ltb-false b 194 t) (ltb-false 244 b u) in
      wide_lead at k x.1 ∙ rw (rest_of_lem x.1)))

  pub ascii_same : (at b : ℕ) → b < 128 → plain_by s at b ≡ Ok (at + 1)
  unfolding form_at ranges_at
  ascii_same at b h = let l : Lead b [] = one (omega arith) in rw (rest_of_lem l)

  pub ascii_goes : (at b : ℕ) → b < 128 → going (plain_by s at b) ≡ Continue (at + 1)
  unfolding going
  ascii_goes at b h = ap going (ascii_same at b h)
