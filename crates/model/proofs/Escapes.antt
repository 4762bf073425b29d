-- Four hexadecimal digits are read exactly where they stand, with the number that they are. Assumes nothing.
use Rattle.std.specs.Prelude.{Ok, Err}
use Rattle.model.specs.declared.ReadError.TheVariants.{Stop}
use mathlib.Core.Path.{◌≡◌, refl, sym, ap, ◌∙◌}
use mathlib.Core.Bool.{Bool, true, false, not}
use mathlib.Core.List.{List}
use mathlib.Core.Logic.{◌⊎◌, inl, inr}
use Prim.Native.Nat.{ℕ, ◌+◌, ◌-◌, ◌*◌, ◌≤◌, ◌<◌}
use native.Mathlib.Omega.{arith}
use borrow.Author.Tests.{ne_eqb, eq-eqb, eqb-true, eqb-false, not-true}
use lib.Dec.{eqb}
use Rattle.model.specs.Scan.{byte, Parsed}
use Rattle.model.specs.Strings.{◌to◌, is_second_half, hex_of, stopped_at, digit_by, digit_from, digit_at, tested_from, tested, no_digits, begins_second, unit_at, second_at}
use Rattle.model.specs.Characters.{Digits, digits_number, UnitDigits, SecondDigits}
use Rattle.model.proofs.Tests.{split}
use Rattle.model.proofs.Utf8.{in_range_lem, over_range, under_range, of_range}
use Rattle.model.proofs.TextUtf8.{hex_digit_lem, not_range}

abbrev number : ℕ → ℕ → Parsed ℕ
number e v = record { read = Ok e; tree = v }

-- a test of the number so far
module _ (f : ℕ → Bool) (e v : ℕ) where
  pub test_holds : f v ≡ true → tested f (record { read = Ok e; tree = v }) ≡ record { read = Ok e; tree = v }
  unfolding tested tested_from
  test_holds h = rw (tested, tested_from, h)

  pub test_fails : f v ≡ false → tested f (record { read = Ok e; tree = v }) ≡ stopped_at (e - 1)
  unfolding tested tested_from
  test_fails h = rw (tested, tested_from, h)

never : {e v x : ℕ} → number e v ≡ stopped_at x → ⊥
never {e} {v} {x} h = let r : Ok e ≡ Err (Stop x) = ap (λ p. p.read) h in let z : ◌≡◌ {A = ℕ} 0 1 = cc in omega arith

-- whether the first two of four digits begin a second half tells whether all four are one
abbrev of4 : ℕ → ℕ → ℕ → ℕ → ℕ
of4 a b c d = 4096 * a + 256 * b + 16 * c + d

prefix : (a b c d : ℕ) → c < 16 → d < 16 → begins_second (a * 16 + b) ≡ is_second_half (of4 a b c d)
prefix a b c d h g = split (begins_second (a * 16 + b))
    (λ t. let r = of_range (220 to 223) (a * 16 + b) t in t ∙ sym (in_range_lem (56320 to 57343) (of4 a b c d) (omega (arith, r.0)) (omega (arith, r.1))))
    (λ t. t ∙ sym (apart (not_range (220 to 223) (a * 16 + b) t)))
  where
    apart : (a * 16 + b < 220) ⊎ (223 < a * 16 + b) → is_second_half (of4 a b c d) ≡ false
    apart (inl l) = under_range (56320 to 57343) (of4 a b c d) (omega arith)
    apart (inr l) = over_range (56320 to 57343) (of4 a b c d) (omega arith)

abbrev nonzero : ℕ → Bool
nonzero v = not (eqb v 0)

abbrev no_second : ℕ → Bool
no_second v = not (begins_second v)

abbrev thirteen : ℕ → Bool
thirteen v = eqb v 13

module _ (s : List ℕ) where
  by_digit : (e v a : ℕ) → (a ≡ 16 → ⊥) → digit_by e v a ≡ number (e + 1) (v * 16 + a)
  unfolding digit_by
  by_digit e v a n = rw (digit_by, ne_eqb a 16 n)

  by_none : (e v a : ℕ) → a ≡ 16 → digit_by e v a ≡ stopped_at e
  unfolding digit_by
  by_none e v a n = rw (digit_by, eq-eqb a 16 n)

  digit_is : (e v a : ℕ) → hex_of (byte s e) ≡ a → digit_at s (number e v) ≡ digit_by e v a
  unfolding digit_at digit_from
  digit_is e v a h = ap (digit_by e v) h

  same : {e v e' v' : ℕ} → e ≡ e' → v ≡ v' → number e v ≡ number e' v'
  same p q = λ i. record { read = Ok (p i); tree = q i }

  digit_on : (e v a e' v' : ℕ) → hex_of (byte s e) ≡ a → (a ≡ 16 → ⊥) → e + 1 ≡ e' → v * 16 + a ≡ v' → digit_at s (number e v) ≡ number e' v'
  digit_on e v a e' v' h n p q = digit_is e v a h ∙ by_digit e v a n ∙ same p q

  digit_off : (e v a : ℕ) → hex_of (byte s e) ≡ a → a ≡ 16 → digit_at s (number e v) ≡ stopped_at e
  digit_off e v a h n = digit_is e v a h ∙ by_none e v a n

  module _ (at : ℕ) (a b c d : ℕ) (ha : hex_of (byte s at) ≡ a) (hb : hex_of (byte s (at + 1)) ≡ b) (hc : hex_of (byte s (at + 2)) ≡ c) (hd : hex_of (byte s (at + 3)) ≡ d) where
    -- the digits one after another
    first : (a ≡ 16 → ⊥) → digit_at s (no_digits at) ≡ number (at + 1) a
    first n = digit_on at 0 a (at + 1) a ha n refl (omega arith)

    second : (b ≡ 16 → ⊥) → digit_at s (number (at + 1) a) ≡ number (at + 2) (a * 16 + b)
    second n = digit_on (at + 1) a b (at + 2) (a * 16 + b) hb n (omega arith) refl

    third : (c ≡ 16 → ⊥) → digit_at s (number (at + 2) (a * 16 + b)) ≡ number (at + 3) (256 * a + 16 * b + c)
    third n = digit_on (at + 2) (a * 16 + b) c (at + 3) (256 * a + 16 * b + c) hc n (omega arith) (omega arith)

    fourth : (d ≡ 16 → ⊥) → digit_at s (number (at + 3) (256 * a + 16 * b + c)) ≡ number (at + 4) (of4 a b c d)
    fourth n = digit_on (at + 3) (256 * a + 16 * b + c) d (at + 4) (of4 a b c d) hd n (omega arith) (omega arith)

    -- what is left to read of a unit, and of a second half
    abbrev unit1 : Parsed ℕ → Parsed ℕ
    unit1 p = tested nonzero (digit_at s (digit_at s (tested no_second (digit_at s p))))

    abbrev unit2 : Parsed ℕ → Parsed ℕ
    unit2 p = tested nonzero (digit_at s (digit_at s (tested no_second p)))

    abbrev unit3 : Parsed ℕ → Parsed ℕ
    unit3 p = tested nonzero (digit_at s (digit_at s p))

    abbrev unit4 : Parsed ℕ → Parsed ℕ
    unit4 p = tested nonzero (digit_at s p)

    abbrev second1 : Parsed ℕ → Parsed ℕ
    second1 p = digit_at s (digit_at s (tested begins_second (digit_at s (tested thirteen p))))

    abbrev second2 : Parsed ℕ → Parsed ℕ
    second2 p = digit_at s (digit_at s (tested begins_second (digit_at s p)))

    abbrev second3 : Parsed ℕ → Parsed ℕ
    second3 p = digit_at s (digit_at s (tested begins_second p))

    abbrev second4 : Parsed ℕ → Parsed ℕ
    second4 p = digit_at s (digit_at s p)

    -- what is left is not read where reading stopped
    module _ (x : ℕ) where
      left_unit1 : unit1 (stopped_at x) ≡ stopped_at x
      unfolding digit_at digit_from tested tested_from
      left_unit1 = refl

      left_second1 : second1 (stopped_at x) ≡ stopped_at x
      unfolding digit_at digit_from tested tested_from
      left_second1 = refl

      left_unit2 : unit2 (stopped_at x) ≡ stopped_at x
      unfolding digit_at digit_from tested tested_from
      left_unit2 = refl

      left_second2 : second2 (stopped_at x) ≡ stopped_at x
      unfolding digit_at digit_from tested tested_from
      left_second2 = refl

      left_unit3 : unit3 (stopped_at x) ≡ stopped_at x
      unfolding digit_at digit_from tested tested_from
      left_unit3 = refl

      left_second3 : second3 (stopped_at x) ≡ stopped_at x
      unfolding digit_at digit_from tested tested_from
      left_second3 = refl

      left_unit4 : unit4 (stopped_at x) ≡ stopped_at x
      unfolding digit_at digit_from tested tested_from
      left_unit4 = refl

      left_second4 : second4 (stopped_at x) ≡ stopped_at x
      unfolding digit_at digit_from tested tested_from
      left_second4 = refl

      left_digit : digit_at s (stopped_at x) ≡ stopped_at x
      unfolding digit_at digit_from
      left_digit = refl

      left_test : (f : ℕ → Bool) → tested f (stopped_at x) ≡ stopped_at x
      unfolding tested tested_from
      left_test f = refl

    abbrev Found : ℕ → ℕ → Type 0
    Found e v = (a < 16) × (b < 16) × (c < 16) × (d < 16) × (e ≡ at + 4) × (v ≡ of4 a b c d)

    equal : {e v e' v' : ℕ} → number e v ≡ number e' v' → (e ≡ e') × (v ≡ v')
    equal {e} {v} {e'} {v'} h = let r : Ok e ≡ Ok e' = ap (λ p. p.read) h in let y : e ≡ e' = cc in (y, ap (λ p. p.tree) h)

    -- ── a unit ──
    unit_on : (a ≡ 16 → ⊥) → (b ≡ 16 → ⊥) → (c ≡ 16 → ⊥) → (d ≡ 16 → ⊥) → no_second (a * 16 + b) ≡ true → nonzero (of4 a b c d) ≡ true → unit_at s at ≡ number (at + 4) (of4 a b c d)
    unit_on na nb nc nd t z =
        ap unit1 (first na) ∙ ap unit2 (second nb) ∙ ap unit3 (test_holds no_second (at + 2) (a * 16 + b) t) ∙ ap unit4 (third nc) ∙ ap (tested nonzero) (fourth nd) ∙ test_holds nonzero (at + 4) (of4 a b c d) z

    unit_off : (e v : ℕ) → unit_at s at ≡ number e v → a ≤ 16 → b ≤ 16 → c ≤ 16 → d ≤ 16 → Found e v × (0 < v) × (is_second_half v ≡ false)
    unit_off e v h la lb lc ld = split (eqb a 16)
        (λ t. absurd (never (sym h ∙ ap unit1 (digit_off at 0 a ha (eqb-true a 16 t)) ∙ left_unit1 at))) (λ t. let na = eqb-false a 16 t in
        split (eqb b 16)
        (λ t. absurd (never (sym h ∙ ap unit1 (first na) ∙ ap unit2 (digit_off (at + 1) a b hb (eqb-true b 16 t)) ∙ left_unit2 (at + 1)))) (λ t. let nb = eqb-false b 16 t in
        split (no_second (a * 16 + b)) (λ sec.
        split (eqb c 16)
        (λ t. absurd (never (sym h ∙ ap unit1 (first na) ∙ ap unit2 (second nb) ∙ ap unit3 (test_holds no_second (at + 2) (a * 16 + b) sec) ∙ ap unit4 (digit_off (at + 2) (a * 16 + b) c hc (eqb-true c 16 t)) ∙ left_unit4 (at + 2)))) (λ t. let nc = eqb-false c 16 t in
        split (eqb d 16)
        (λ t. absurd (never (sym h ∙ ap unit1 (first na) ∙ ap unit2 (second nb) ∙ ap unit3 (test_holds no_second (at + 2) (a * 16 + b) sec) ∙ ap unit4 (third nc) ∙ ap (tested nonzero) (digit_off (at + 3) (256 * a + 16 * b + c) d hd (eqb-true d 16 t)) ∙ left_test (at + 3) nonzero))) (λ t. let nd = eqb-false d 16 t in
        split (nonzero (of4 a b c d)) (λ nz. let r = equal (sym h ∙ unit_on na nb nc nd sec nz) in
        found na nb nc nd sec (eqb-false (of4 a b c d) 0 (not-true (eqb (of4 a b c d) 0) nz)) r.0 r.1)
        (λ nz. absurd (never (sym h ∙ ap unit1 (first na) ∙ ap unit2 (second nb) ∙ ap unit3 (test_holds no_second (at + 2) (a * 16 + b) sec) ∙ ap unit4 (third nc) ∙ ap (tested nonzero) (fourth nd) ∙ test_fails nonzero (at + 4) (of4 a b c d) nz))))))
        (λ sec. absurd (never (sym h ∙ ap unit1 (first na) ∙ ap unit2 (second nb) ∙ ap unit3 (test_fails no_second (at + 2) (a * 16 + b) sec) ∙ left_unit3 (at + 2 - 1))))))
      where
        found : (a ≡ 16 → ⊥) → (b ≡ 16 → ⊥) → (c ≡ 16 → ⊥) → (d ≡ 16 → ⊥) → no_second (a * 16 + b) ≡ true → (of4 a b c d ≡ 0 → ⊥) → e ≡ at + 4 → v ≡ of4 a b c d → Found e v × (0 < v) × (is_second_half v ≡ false)
        found na nb nc nd sec nz p q =
            ((omega (arith, na), omega (arith, nb), omega (arith, nc), omega (arith, nd), p, q), omega (arith, nz), ap is_second_half q ∙ sym (prefix a b c d (omega (arith, nc)) (omega (arith, nd))) ∙ not-true (begins_second (a * 16 + b)) sec)

    -- ── a second half ──
    second_on : (a ≡ 16 → ⊥) → (b ≡ 16 → ⊥) → (c ≡ 16 → ⊥) → (d ≡ 16 → ⊥) → thirteen a ≡ true → begins_second (a * 16 + b) ≡ true → second_at s at ≡ number (at + 4) (of4 a b c d)
    second_on na nb nc nd t z =
        ap second1 (first na) ∙ ap second2 (test_holds thirteen (at + 1) a t) ∙ ap second3 (second nb) ∙ ap second4 (test_holds begins_second (at + 2) (a * 16 + b) z) ∙ ap (digit_at s) (third nc) ∙ fourth nd

    second_off : (e v : ℕ) → second_at s at ≡ number e v → a ≤ 16 → b ≤ 16 → c ≤ 16 → d ≤ 16 → Found e v × (is_second_half v ≡ true)
    second_off e v h la lb lc ld = split (eqb a 16)
        (λ t. absurd (never (sym h ∙ ap second1 (digit_off at 0 a ha (eqb-true a 16 t)) ∙ left_second1 at))) (λ t. let na = eqb-false a 16 t in
        split (thirteen a) (λ th.
        split (eqb b 16)
        (λ t. absurd (never (sym h ∙ ap second1 (first na) ∙ ap second2 (test_holds thirteen (at + 1) a th) ∙ ap second3 (digit_off (at + 1) a b hb (eqb-true b 16 t)) ∙ left_second3 (at + 1)))) (λ t. let nb = eqb-false b 16 t in
        split (begins_second (a * 16 + b)) (λ sec.
        split (eqb c 16)
        (λ t. absurd (never (sym h ∙ ap second1 (first na) ∙ ap second2 (test_holds thirteen (at + 1) a th) ∙ ap second3 (second nb) ∙ ap second4 (test_holds begins_second (at + 2) (a * 16 + b) sec) ∙ ap (digit_at s) (digit_off (at + 2) (a * 16 + b) c hc (eqb-true c 16 t)) ∙ left_digit (at + 2)))) (λ t. let nc = eqb-false c 16 t in
        split (eqb d 16)
        (λ t. absurd (never (sym h ∙ ap second1 (first na) ∙ ap second2 (test_holds thirteen (at + 1) a th) ∙ ap second3 (second nb) ∙ ap second4 (test_holds begins_second (at + 2) (a * 16 + b) sec) ∙ ap (digit_at s) (third nc) ∙ digit_off (at + 3) (256 * a + 16 * b + c) d hd (eqb-true d 16 t)))) (λ t. let nd = eqb-false d 16 t in
        let r = equal (sym h ∙ second_on na nb nc nd th sec) in found na nb nc nd sec r.0 r.1)))
        (λ sec. absurd (never (sym h ∙ ap second1 (first na) ∙ ap second2 (test_holds thirteen (at + 1) a th) ∙ ap second3 (second nb) ∙ ap second4 (test_fails begins_second (at + 2) (a * 16 + b) sec) ∙ left_second4 (at + 2 - 1))))))
        (λ th. absurd (never (sym h ∙ ap second1 (first na) ∙ ap second2 (test_fails thirteen (at + 1) a th) ∙ left_second2 (at + 1 - 1)))))
      where
        found : (a ≡ 16 → ⊥) → (b ≡ 16 → ⊥) → (c ≡ 16 → ⊥) → (d ≡ 16 → ⊥) → begins_second (a * 16 + b) ≡ true → e ≡ at + 4 → v ≡ of4 a b c d → Found e v × (is_second_half v ≡ true)
        found na nb nc nd sec p q =
            ((omega (arith, na), omega (arith, nb), omega (arith, nc), omega (arith, nd), p, q), ap is_second_half q ∙ sym (prefix a b c d (omega (arith, nc)) (omega (arith, nd))) ∙ sec)

abbrev digit : List ℕ → ℕ → ℕ
digit s i = hex_of (byte s i)

pub unit_digits : UnitDigits
unit_digits s at e v = (there, back)
  where
    there : unit_at s at ≡ number e v → Digits s at × (e ≡ at + 4) × (v ≡ digits_number s at) × (0 < v) × (is_second_half v ≡ false)
    there q =
        let r = unit_off s at (digit s at) (digit s (at + 1)) (digit s (at + 2)) (digit s (at + 3)) refl refl refl refl e v q (hex_digit_lem (byte s at)) (hex_digit_lem (byte s (at + 1))) (hex_digit_lem (byte s (at + 2))) (hex_digit_lem (byte s (at + 3))) in
        let f = r.0 in
        ((f.0, f.1, f.2, f.3), f.4, f.5, r.1, r.2)

    back : Digits s at × (e ≡ at + 4) × (v ≡ digits_number s at) × (0 < v) × (is_second_half v ≡ false) → unit_at s at ≡ number e v
    back (g, p, q, z, n) =
        unit_on s at (digit s at) (digit s (at + 1)) (digit s (at + 2)) (digit s (at + 3)) refl refl refl refl (λ x. omega (arith, g.0)) (λ x. omega (arith, g.1)) (λ x. omega (arith, g.2)) (λ x. omega (arith, g.3))
        (ap not (prefix (digit s at) (digit s (at + 1)) (digit s (at + 2)) (digit s (at + 3)) g.2 g.3 ∙ ap is_second_half (sym q) ∙ n)) (ap not (ne_eqb (digits_number s at) 0 (λ x. omega (arith, q, x))))
        ∙ same s (sym p) (sym q)

pub second_digits : SecondDigits
second_digits s at e v = (there, back)
  where
    there : second_at s at ≡ number e v → Digits s at × (e ≡ at + 4) × (v ≡ digits_number s at) × (is_second_half v ≡ true)
    there q =
        let r = second_off s at (digit s at) (digit s (at + 1)) (digit s (at + 2)) (digit s (at + 3)) refl refl refl refl e v q (hex_digit_lem (byte s at)) (hex_digit_lem (byte s (at + 1))) (hex_digit_lem (byte s (at + 2))) (hex_digit_lem (byte s (at + 3))) in
        let f = r.0 in
        ((f.0, f.1, f.2, f.3), f.4, f.5, r.1)

    back : Digits s at × (e ≡ at + 4) × (v ≡ digits_number s at) × (is_second_half v ≡ true) → second_at s at ≡ number e v
    back (g, p, q, n) =
        let sec : begins_second (digit s at * 16 + digit s (at + 1)) ≡ true = prefix (digit s at) (digit s (at + 1)) (digit s (at + 2)) (digit s (at + 3)) g.2 g.3 ∙ ap is_second_half (sym q) ∙ n in
        let r = of_range (220 to 223) (digit s at * 16 + digit s (at + 1)) sec in
        second_on s at (digit s at) (digit s (at + 1)) (digit s (at + 2)) (digit s (at + 3)) refl refl refl refl (λ x. omega (arith, g.0)) (λ x. omega (arith, g.1)) (λ x. omega (arith, g.2)) (λ x. omega (arith, g.3))
        (eq-eqb (digit s at) 13 (omega (arith, g.1, r.0, r.1))) sec
        ∙ same s (sym p) (sym q)
