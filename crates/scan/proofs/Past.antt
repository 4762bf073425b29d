-- Reading goes on: what a reader reads ends past where it began, and within the text. Assumes nothing.
use Rattle.std.specs.Prelude.{Ok, Err}
use Rattle.model.specs.declared.ReadError.TheVariants.{Stop, Deep}
use Rattle.std.specs.declared.ops.ControlFlow.TheVariants.{Continue, Break}
use Rattle.model.specs.Scan.{Read, Next}
use Rattle.scan.specs.Units.{Hex}
use mathlib.Core.Path.{◌≡◌, refl, ap, subst, ◌∙◌}
use mathlib.Core.List.{List}
use mathlib.Core.Bool.{Bool, true, false}
use Prim.Native.Nat.{ℕ, suc, ◌+◌, ◌<◌, ◌≤◌}
use native.Mathlib.Omega.{arith}
use lib.ListN.{length}
use lib.Dec.{ltb, eqb, lit<}
use borrow.Author.Tests.{ltb-true, ltb-false, eqb-true, eqb-false}
use Rattle.scan.specs.declared.Half.{Half}
use Rattle.scan.specs.declared.Half.TheVariants.{Whole, High, Refused}
use Rattle.model.specs.Scan.{byte, within_at}
use Rattle.model.specs.Strings.{short_of, hex_of, plain_by, escaped_at, going, escape_by, char_by}
use Rattle.scan.specs.Units.{hex_add, hex_step, outside, inside as within, hex_at, low_hex_at, half_of, low_from, low_at, pair_by, unit_by, wide_by}
use Rattle.leaf.specs.Bytes.{second_low, second_high}
use Rattle.model.proofs.Tests.{split}
use Rattle.scan.proofs.Bytes.{inside, inside_byte}
use Rattle.scan.proofs.Same.{escape_same, wide_same, ascii_same}

-- a choice by a test, one side at a time
pub by_test : {A : Type 0} (P : A → Type 0) (b : Bool) {x y : A} → (b ≡ true → P x) → (b ≡ false → P y) → P (elim b [ true ↦ x | false ↦ y ])
by_test P true f g = f refl
by_test P false f g = g refl

-- an end, if there is one, lies from a on and within the text
abbrev pub Past : List ℕ → ℕ → Read → Type 0
Past s a (Ok e) = (a ≤ e) × (e ≤ length s)
Past s a (Err e) = Unit

abbrev pub PastNext : List ℕ → ℕ → Next → Type 0
PastNext s a (Continue e) = (a ≤ e) × (e ≤ length s)
PastNext s a (Break r) = Past s a r

module _ (s : List ℕ) where
  pub within_past : (low high a : ℕ) → high < 256 → (r : Read) → ((e : ℕ) → r ≡ Ok e → a ≤ e) → Past s (suc a) (within_at s low high r)
  unfolding within_at
  within_past low high a hi (Ok e) h =
      by_test (Past s (suc a)) (ltb (byte s e) low) (λ t. tt) (λ t. by_test (Past s (suc a)) (ltb high (byte s e)) (λ u. tt) (λ u.
      let i : e < length s = inside s e (λ q. omega (arith, ltb-false high (byte s e) u, q)) in
      omega (arith, h e refl)))
  within_past low high a hi (Err e) h = tt

  -- hexadecimal digits
  abbrev PastHex : ℕ → Hex → Type 0
  PastHex a (Ok (e, v)) = (a ≤ e) × (e ≤ length s)
  PastHex a (Err e) = Unit

  hex_past : (a : ℕ) (h : Hex) → ((e v : ℕ) → h ≡ Ok (e, v) → a ≤ e) → PastHex (suc a) (hex_step s h)
  unfolding hex_step hex_add hex_of
  hex_past a (Ok (e, v)) h =
      by_test (PastHex (suc a)) (eqb (hex_of (byte s e)) 16) (λ t. tt) (λ t.
      let i : e < length s = inside s e (λ q. eqb-false (hex_of (byte s e)) 16 t (ap hex_of q)) in
      omega (arith, h e v refl))
  hex_past a (Err e) h = tt

  -- an end of a reading that is past a is at least a
  pub from_past : (a : ℕ) (r : Read) → Past s a r → (e : ℕ) → r ≡ Ok e → a ≤ e
  from_past a r h e q = (subst (Past s a) q h).0

  from_hex : (a : ℕ) (r : Hex) → PastHex a r → (e v : ℕ) → r ≡ Ok (e, v) → a ≤ e
  from_hex a r h e v q = (subst (PastHex a) q h).0

  weaker : (a b : ℕ) → a ≤ b → (h : Hex) → PastHex b h → PastHex a h
  weaker a b le (Ok (e, v)) h = omega arith
  weaker a b le (Err e) h = tt

  outside_past : (a low high : ℕ) (h : Hex) → PastHex a h → PastHex a (outside low high h)
  unfolding outside
  outside_past a low high (Ok (e, v)) p = by_test (PastHex a) (ltb v low) (λ t. p) (λ t. by_test (PastHex a) (ltb high v) (λ u. p) (λ u. tt))
  outside_past a low high (Err e) p = tt

  inside_past : (a low high : ℕ) (h : Hex) → PastHex a h → PastHex a (within low high h)
  unfolding within
  inside_past a low high (Ok (e, v)) p = by_test (PastHex a) (ltb v low) (λ t. tt) (λ t. by_test (PastHex a) (ltb high v) (λ u. tt) (λ u. p))
  inside_past a low high (Err e) p = tt

  -- one digit more
  step_past : (a : ℕ) (h : Hex) → PastHex a h → PastHex (suc a) (hex_step s h)
  step_past a h p = hex_past a h (from_hex a h p)

  first_digit : (a : ℕ) → PastHex (suc a) (hex_step s (Ok (a, 0)))
  first_digit a = hex_past a (Ok (a, 0)) (λ e v q. let z : ◌≡◌ {A = ℕ × ℕ} (a, 0) (e, v) = cc in omega (arith, ap (λ (p : ℕ × ℕ). p.0) z))

  hex4_far : (a : ℕ) → PastHex (suc (suc (suc (suc a)))) (hex_at s a)
  hex4_far a =
      outside_past (suc (suc (suc (suc a)))) 0 0 _ (step_past (suc (suc (suc a))) _ (step_past (suc (suc a)) _ (outside_past (suc (suc a)) 220 223 _ (step_past (suc a) _ (first_digit a)))))

  hex4_past : (a : ℕ) → PastHex a (hex_at s a)
  hex4_past a = weaker a (suc (suc (suc (suc a)))) (omega arith) (hex_at s a) (hex4_far a)

  low4_past : (a : ℕ) → PastHex a (low_hex_at s a)
  low4_past a =
      weaker a (suc (suc (suc (suc a)))) (omega arith) (low_hex_at s a)
      (step_past (suc (suc (suc a))) _ (step_past (suc (suc a)) _ (inside_past (suc (suc a)) 220 223 _ (step_past (suc a) _ (inside_past (suc a) 13 13 _ (first_digit a))))))

  low_past : (a : ℕ) (r : Read) → ((e : ℕ) → r ≡ Ok e → a ≤ e) → PastHex a (low_from s r)
  unfolding low_from
  low_past a (Ok e) h = weaker a e (h e refl) (low_hex_at s e) (low4_past e)
  low_past a (Err (Stop e)) h = tt
  low_past a (Err (Deep e)) h = tt

  pair_past : (a : ℕ) (h : Hex) → PastHex a h → PastNext s a (pair_by h)
  unfolding pair_by
  pair_past a (Ok (e, w)) h = h
  pair_past a (Err e) h = tt

  -- a choice by an enum
  by_half : {A : Type 0} (P : A → Type 0) (b : Half) {x y z : A} → P x → P y → P z → P (elim b [ Whole ↦ x | High ↦ y | Refused ↦ z ])
  by_half P Whole f g h = f
  by_half P High f g h = g
  by_half P Refused f g h = h

  low_at_past : (a e : ℕ) → a ≤ e → PastHex a (low_at s e)
  low_at_past a e le =
      let x = within_at s 92 92 (Ok e) in
      let p1 = within_past 92 92 a (lit< tt) (Ok e) (λ d q. let z : d ≡ e = cc in omega arith) in
      let p2 = within_past 117 117 (suc a) (lit< tt) x (from_past (suc a) x p1) in
      weaker a (suc (suc a)) (omega arith) (low_at s e) (low_past (suc (suc a)) (within_at s 117 117 x) (from_past (suc (suc a)) (within_at s 117 117 x) p2))

  unit_past : (a : ℕ) (h : Hex) → PastHex a h → PastNext s a (unit_by s h)
  unfolding unit_by
  unit_past a (Ok (e, v)) h = by_half (PastNext s a) (half_of v) h (pair_past a (low_at s e) (low_at_past a e h.0)) tt
  unit_past a (Err e) h = tt

  -- a \u escape is four digits long at least
  pub unit_far : (a e : ℕ) → going (escaped_at s a).read ≡ Continue e → a + 4 ≤ e
  unit_far a e h =
      let p = subst (PastNext s (suc (suc (suc (suc a))))) (escape_same s a ∙ h) (unit_past (suc (suc (suc (suc a)))) (hex_at s a) (hex4_far a)) in
      omega (arith, p.0)

  pub later : (a b : ℕ) → a ≤ b → (n : Next) → PastNext s b n → PastNext s a n
  later a b le (Continue e) h = omega arith
  later a b le (Break (Ok e)) h = omega arith
  later a b le (Break (Err e)) h = tt

  escape_past : (at : ℕ) → PastNext s (suc at) (escape_by s at (byte s at))
  unfolding escape_by short_of
  escape_past at =
      by_test (PastNext s (suc at)) (eqb (short_of (byte s at)) 0)
      (λ t. by_test (PastNext s (suc at)) (eqb (byte s at) 117)
      (λ u. subst (PastNext s (suc at)) (escape_same s (at + 1)) (later (suc at) (at + 1) (omega arith) (unit_by s (hex_at s (at + 1))) (unit_past (at + 1) (hex_at s (at + 1)) (hex4_past (at + 1)))))
      (λ u. tt))
      (λ t. let i : at < length s = inside s at (λ q. eqb-false (short_of (byte s at)) 0 t (ap short_of q)) in omega arith)

  going_past : (a : ℕ) (r : Read) → Past s a r → PastNext s a (going r)
  unfolding going
  going_past a (Ok e) h = h
  going_past a (Err e) h = tt

  -- the second byte of a character is at most 191
  second_small : (b : ℕ) → second_high b < 256
  unfolding second_high
  second_small b = by_test (λ n. n < 256) (eqb b 237) (λ t. lit< tt) (λ t. by_test (λ n. n < 256) (eqb b 244) (λ u. lit< tt) (λ u. lit< tt))

  pub shorter : (a b : ℕ) → a ≤ b → (r : Read) → Past s b r → Past s a r
  shorter a b le (Ok e) h = omega arith
  shorter a b le (Err e) h = tt

  wide_past : (at b : ℕ) → Past s (suc at) (wide_by s at b)
  unfolding wide_by
  wide_past at b =
      let P = Past s (suc at) in
      let x = within_at s (second_low b) (second_high b) (Ok (at + 1)) in
      let y = within_at s 128 191 x in
      let p1 = within_past (second_low b) (second_high b) (suc at) (second_small b) (Ok (at + 1)) (λ d q. let z : d ≡ at + 1 = cc in omega arith) in
      let p2 = within_past 128 191 (suc (suc at)) (lit< tt) x (from_past (suc (suc at)) x p1) in
      let p3 = within_past 128 191 (suc (suc (suc at))) (lit< tt) y (from_past (suc (suc (suc at))) y p2) in
      by_test P (ltb b 194) (λ t. tt) (λ t. by_test P (ltb 244 b) (λ t. tt) (λ t.
      by_test P (ltb b 224) (λ t. shorter (suc at) (suc (suc at)) (omega arith) x p1) (λ t.
      by_test P (ltb b 240) (λ t. shorter (suc at) (suc (suc (suc at))) (omega arith) y p2)
      (λ t. shorter (suc at) (suc (suc (suc (suc at)))) (omega arith) (within_at s 128 191 y) p3))))

  plain_past : (at : ℕ) → Past s (suc at) (plain_by s at (byte s at))
  plain_past at =
      let b = byte s at in
      split (ltb b 128)
      (λ t. let h = ltb-true b 128 t in let i = inside s at (λ q. omega (arith, q)) in rw (ascii_same s at b h) (omega arith, omega arith))
      (λ t. subst (Past s (suc at)) (wide_same s at b (ltb-false b 128 t)) (wide_past at b))

  pub char_past : (at : ℕ) → PastNext s (suc at) (char_by s at (byte s at))
  unfolding char_by
  char_past at =
      let b = byte s at in
      let P = PastNext s (suc at) in
      by_test P (eqb b 34) (λ t. let i = inside_byte s at 34 (eqb-true b 34 t) (lit< tt) in omega arith) (λ t.
      by_test P (eqb b 92) (λ t. later (suc at) (suc (at + 1)) (omega arith) (escape_by s (at + 1) (byte s (at + 1))) (escape_past (at + 1))) (λ t.
      by_test P (ltb b 32) (λ t. tt) (λ t. going_past (suc at) (plain_by s at b) (plain_past at))))
