-- A character that is no escape is the bytes of one character, and every string that is read is UTF-8 without 00, whatever the text. Assumes nothing.
use Rattle.std.specs.Prelude.{Ok, Err}
use Rattle.model.specs.declared.ReadError.TheVariants.{Stop, Deep}
use Rattle.std.specs.declared.ops.ControlFlow.TheVariants.{Continue, Break}
use Rattle.model.specs.Scan.{Read, Next}
use Rattle.std.specs.Prelude.{Option, Some, None}
use mathlib.Core.Path.{◌≡◌, refl, sym, ap, subst, ◌∙◌}
use mathlib.Core.Bool.{Bool, true, false, not, ◌&&◌}
use mathlib.Core.List.{List, [], ◌∷◌, ◌++◌}
use mathlib.Core.Logic.{◌⊎◌, inl, inr}
use Prim.Native.Nat.{ℕ, zero, suc, ◌+◌, ◌-◌, ◌*◌, ◌≤◌, ◌<◌}
use native.Mathlib.Nat.{sub_self}
use native.Mathlib.Numerals.{add-one}
use native.Mathlib.Omega.{arith}
use borrow.Author.Tests.{le-ltb, ne_eqb, le-leb, ltb-true, ltb-false, leb-true, eqb-true, eqb-false, not-true}
use lib.Dec.{eqb, ltb, leb}
use lib.ListN.{length, drop, get_or-eq_default, length-take, length-drop, take-append-drop}
use lib.Seq.{drop-cons}
use Rattle.model.specs.Base.{all}
use Rattle.model.specs.Scan.{byte, Parsed, and_then, Turn, run, within_at, between}
use Rattle.model.specs.Strings.{Range, ◌to◌, in_range, is_first_half, is_character, utf8, forms, rest_of, ranges_at, form_at, short_of, hex_of, digit_by, digit_from, digit_at, tested_from, tested, no_digits, unit_at, second_at, second_from, pair_of, paired, escaped_from, escaped_at, going, escape_by, is_unescaped, char_by, char_bytes, char_adds, char_turn, body_at, string_at}
use Rattle.model.specs.Value.{is_utf8}
use Rattle.model.specs.Characters.{is_textual, CharacterBytes, CharacterMeant}
use Rattle.model.proofs.Tests.{split, clash, and_l, and_r}
use Rattle.model.proofs.Octets.{octet}
pub use Rattle.model.proofs.Utf8.{by_test}
use Rattle.model.proofs.Utf8.{in_range_lem, of_range, is_character_lem, Lead, lead, rest_of_lem, Fits, done, next, Tails, lead_tails, lead_small, Formed, formed, utf8_formed, char_of, first_byte, is_textual_lem, utf8_none, utf8_append, utf8_code, row_one, utf8_octets}

-- ── what a run adds ──
-- what every turn adds, a run adds
pub run_closed : {A : Type 0} (P : List A → Type 0) (f : ℕ → Turn A) → P [] → ((a b : List A) → P a → P b → P (a ++ b)) → ((at : ℕ) → P (f at).adds) → (n at : ℕ) → P (run f n at).tree
unfolding run
run_closed P f empty join turn zero at = empty
run_closed P f empty join turn (suc n) at = go (f at).next refl (run_closed P f empty join turn n)
  where
    go : (q : Next) → (f at).next ≡ q → ((e : ℕ) → P (run f n e).tree) → P (run f (suc n) at).tree
    go (Continue e) h ih = rw (run, h) (join (f at).adds (run f n e).tree (turn at) (ih e))
    go (Break r) h ih = rw (run, h) (turn at)

-- ── characters that stand for themselves ──
-- where a text goes on with a byte
drop_first : (s : List ℕ) (e b : ℕ) (ys : List ℕ) → drop e s ≡ b ∷ ys → (byte s e ≡ b) × (drop (e + 1) s ≡ ys)
drop_first s e b ys h = let r = go s e h in (r.0, rw (add-one e) r.1)
  where
    go : (s : List ℕ) (e : ℕ) → drop e s ≡ b ∷ ys → (byte s e ≡ b) × (drop (suc e) s ≡ ys)
    go [] zero h = absurd (let z : ◌≡◌ {A = ℕ} 0 1 = cc in omega arith)
    go [] (suc e) h = absurd (let z : ◌≡◌ {A = ℕ} 0 1 = cc in omega arith)
    go (x ∷ s) zero h = (cc, cc)
    go (x ∷ s) (suc e) h = go s e h

module _ (s : List ℕ) where
  inside : (at : ℕ) → byte s at < 256 → at < length s
  inside at h = split (ltb at (length s)) (λ e. ltb-true at (length s) e) (λ e. absurd (omega (arith, get_or-eq_default s 256 {n = at} (ltb-false at (length s) e))))

  between_cons : (a e : ℕ) → a < length s → a + 1 ≤ e → between s a e ≡ byte s a ∷ between s (a + 1) e
  between_cons a e h g = let z : e - a ≡ suc (e - (a + 1)) = omega arith in rw (z, drop-cons s a 256 h, add-one a)

  -- a byte within bounds, one case at a time
  by_within : (P : Read → Type 0) (low high e : ℕ) → P (Err (Stop e)) → (low ≤ byte s e → byte s e ≤ high → P (Ok (e + 1))) → P (within_at s low high (Ok e))
  unfolding within_at
  by_within P low high e stop f = by_test P (ltb (byte s e) low) (λ t. stop) (λ t. by_test P (ltb high (byte s e)) (λ u. stop) (λ u. f (ltb-false (byte s e) low t) (ltb-false high (byte s e) u)))

  ranges_stop : (xs : List Range) (e : ℕ) → ranges_at s xs (Err (Stop e)) ≡ Err (Stop e)
  unfolding ranges_at within_at
  ranges_stop [] e = refl
  ranges_stop (x ∷ xs) e = ranges_stop xs e

  -- where the ranges are read to their end, the bytes up to there are in them
  abbrev Ranged : List Range → ℕ → Read → Type 0
  Ranged xs a (Ok e) = (a ≤ e) × (e ≤ length s) × Fits xs (between s a e)
  Ranged xs a (Err e) = Unit

  ranges_fit : (xs : List Range) → Tails xs → (a : ℕ) → a ≤ length s → Ranged xs a (ranges_at s xs (Ok a))
  unfolding ranges_at
  ranges_fit [] t a h = (omega arith, h, rw (sub_self a) done)
  ranges_fit (x ∷ xs) t a h =
      by_within (λ r. Ranged (x ∷ xs) a (ranges_at s xs r)) x.low x.high a (rw (ranges_stop xs a) tt) (λ l g.
      let i : a < length s = inside a (omega (arith, t.1)) in
      step i l g (ranges_at s xs (Ok (a + 1))) (ranges_fit xs t.2 (a + 1) (omega arith)))
    where
      step : a < length s → x.low ≤ byte s a → byte s a ≤ x.high → (r : Read) → Ranged xs (a + 1) r → Ranged (x ∷ xs) a r
      step i l g (Ok e) q = (omega (arith, q.0), q.1, rw (between_cons a e i q.0) (next l g q.2))
      step i l g (Err e) q = tt

  -- and bytes in the ranges are read to their end
  fits_ranges : {xs : List Range} {bs : List ℕ} → Fits xs bs → (a : ℕ) (rest : List ℕ) → drop a s ≡ bs ++ rest → ranges_at s xs (Ok a) ≡ Ok (a + length bs)
  unfolding ranges_at within_at
  fits_ranges done a rest h = let z : a + 0 ≡ a = omega arith in ap Ok (sym z)
  fits_ranges (next {x = x} {xs = xs} {b = b} {bs = bs} l g f) a rest h =
      let r = drop_first s a b (bs ++ rest) h in
      let lo : ltb (byte s a) x.low ≡ false = le-ltb (byte s a) x.low (omega (arith, r.0)) in
      let hi : ltb x.high (byte s a) ≡ false = le-ltb x.high (byte s a) (omega (arith, r.0)) in
      let z : a + 1 + length bs ≡ a + suc (length bs) = omega arith in
      rw (within_at, lo, hi) (fits_ranges f (a + 1) rest r.1 ∙ ap Ok z)

  -- ── a character that is no escape ──
  abbrev Plain : ℕ → ℕ → Type 0
  Plain at e = (c : ℕ) × (is_unescaped c ≡ true) × (e ≤ length s) × (between s at e ≡ utf8 c)

  abbrev PlainNext : ℕ → Next → Type 0
  PlainNext at (Continue e) = Plain at e
  PlainNext at (Break r) = Unit

  unescaped : (c b : ℕ) → is_character c ≡ true → (c ≡ b) ⊎ ((128 ≤ c) × (128 ≤ b)) → 32 ≤ b → (b ≡ 34 → ⊥) → (b ≡ 92 → ⊥) → is_unescaped c ≡ true
  unfolding is_unescaped
  unescaped c b h (inl e) l m n = rw (is_unescaped, le-leb 32 c (omega arith), ne_eqb c 34 (λ z. m (sym e ∙ z)), ne_eqb c 92 (λ z. n (sym e ∙ z)), h)
  unescaped c b h (inr g) l m n = rw (is_unescaped, le-leb 32 c (omega (arith, g.0)), ne_eqb c 34 (λ z. omega (arith, g.0)), ne_eqb c 92 (λ z. omega (arith, g.0)), h)

  plain_form : (at : ℕ) → 32 ≤ byte s at → (byte s at ≡ 34 → ⊥) → (byte s at ≡ 92 → ⊥) → (o : Option (List Range)) → rest_of (byte s at) forms ≡ o → PlainNext at (going (form_at s at o))
  unfolding form_at going
  plain_form at l m n None q = tt
  plain_form at l m n (Some xs) q =
      let b : ℕ = byte s at in
      let ld = lead b q in
      let i = inside at (lead_small ld) in
      close ld i (ranges_at s xs (Ok (at + 1))) (ranges_fit xs (lead_tails ld) (at + 1) (omega arith))
    where
      close : Lead (byte s at) xs → at < length s → (r : Read) → Ranged xs (at + 1) r → PlainNext at (going r)
      close ld i (Ok e) f =
          let c = char_of ld f.2 in
          (c.0, unescaped c.0 (byte s at) c.1 (first_byte c.0 c.2) l m n, f.1, between_cons at e i f.0 ∙ sym c.2)
      close ld i (Err e) f = tt

  plain_char : (at : ℕ) → (byte s at ≡ 92 → ⊥) → PlainNext at (char_by s at (byte s at))
  unfolding char_by
  plain_char at n =
      let b : ℕ = byte s at in
      by_test (PlainNext at) (eqb b 34) (λ t. tt) (λ t. by_test (PlainNext at) (eqb b 92) (λ u. absurd (n (eqb-true b 92 u))) (λ u.
      by_test (PlainNext at) (ltb b 32) (λ v. tt) (λ v. plain_form at (ltb-false b 32 v) (eqb-false b 34 t) n (rest_of b forms) refl)))

  of_unescaped : (c b : ℕ) → is_unescaped c ≡ true → (c ≡ b) ⊎ ((128 ≤ c) × (128 ≤ b)) → (32 ≤ b) × (b ≡ 34 → ⊥) × (b ≡ 92 → ⊥)
  unfolding is_unescaped
  of_unescaped c b h d =
      let a : Bool = leb 32 c in
      let p : Bool = not (eqb c 34) in
      let q : Bool = not (eqb c 92) in
      let w : (a && p && q) ≡ true = and_l (a && p && q) (is_character c) h in
      let low : 32 ≤ c = leb-true 32 c (and_l a p (and_l (a && p) q w)) in
      let m : c ≡ 34 → ⊥ = eqb-false c 34 (not-true (eqb c 34) (and_r a p (and_l (a && p) q w))) in
      let n : c ≡ 92 → ⊥ = eqb-false c 92 (not-true (eqb c 92) (and_r (a && p) q w)) in
      by d low m n
    where
      by : (c ≡ b) ⊎ ((128 ≤ c) × (128 ≤ b)) → 32 ≤ c → (c ≡ 34 → ⊥) → (c ≡ 92 → ⊥) → (32 ≤ b) × (b ≡ 34 → ⊥) × (b ≡ 92 → ⊥)
      by (inl e) low m n = (omega arith, λ z. m (e ∙ z), λ z. n (e ∙ z))
      by (inr g) low m n = (omega (arith, g.1), λ z. omega (arith, g.1), λ z. omega (arith, g.1))

  unescaped_character : (c : ℕ) → is_unescaped c ≡ true → is_character c ≡ true
  unfolding is_unescaped
  unescaped_character c h = and_r (leb 32 c && not (eqb c 34) && not (eqb c 92)) (is_character c) h

  plain_by_lem : (at e b : ℕ) → 32 ≤ b → (b ≡ 34 → ⊥) → (b ≡ 92 → ⊥) → {xs : List Range} → Lead b xs → ranges_at s xs (Ok (at + 1)) ≡ Ok e → char_by s at b ≡ Continue e
  unfolding char_by form_at going
  plain_by_lem at e b l m n ld h = rw (char_by, ne_eqb b 34 m, ne_eqb b 92 n, le-ltb b 32 l, rest_of_lem ld, h)

  plain_read : (at e : ℕ) → Plain at e → (char_by s at (byte s at) ≡ Continue e) × (byte s at ≡ 92 → ⊥)
  plain_read at e (c, good, le, is) = go (utf8 c) refl (utf8_formed c (unescaped_character c good))
    where
      go : (l : List ℕ) → utf8 c ≡ l → Formed l → (char_by s at (byte s at) ≡ Continue e) × (byte s at ≡ 92 → ⊥)
      go [] u f = elim f [ ]
      go (b ∷ bs) u (formed {xs = xs} ld f) =
          let rest : List ℕ = drop (e - at) (drop at s) in
          let whole : drop at s ≡ b ∷ (bs ++ rest) = sym (take-append-drop (e - at) (drop at s)) ∙ ap (λ l. l ++ rest) (is ∙ u) in
          let r = drop_first s at b (bs ++ rest) whole in
          let ends = fits_ranges f (at + 1) rest r.1 in
          let size : length (between s at e) ≡ suc (length bs) = ap length (is ∙ u) in
          let z : at + 1 + length bs ≡ e = omega (arith, length-take (e - at) (drop at s), length-drop at s, size) in
          let x = of_unescaped c b good (first_byte c u) in
          (ap (char_by s at) r.0 ∙ plain_by_lem at e b x.0 x.1 x.2 ld (ends ∙ ap Ok z), λ y. x.2 (sym r.0 ∙ y))

-- RFC 4627 §2.5, "unescaped", in UTF-8
pub character_bytes : CharacterBytes
character_bytes s at e = (λ h. subst (PlainNext s at) h.0 (plain_char s at h.1), plain_read s at e)

-- ── escapes ──
abbrev AtMost : ℕ → ℕ → Type 0
AtMost n x = x ≤ n

-- the byte that a short escape stands for is ASCII and not 0
short_small : (c : ℕ) → short_of c ≤ 127
unfolding short_of
short_small c =
    by_test (AtMost 127) (eqb c 34) (λ t. omega arith) (λ t. by_test (AtMost 127) (eqb c 92) (λ t. omega arith) (λ t. by_test (AtMost 127) (eqb c 47) (λ t. omega arith) (λ t.
    by_test (AtMost 127) (eqb c 98) (λ t. omega arith) (λ t. by_test (AtMost 127) (eqb c 102) (λ t. omega arith) (λ t. by_test (AtMost 127) (eqb c 110) (λ t. omega arith) (λ t.
    by_test (AtMost 127) (eqb c 114) (λ t. omega arith) (λ t. by_test (AtMost 127) (eqb c 116) (λ t. omega arith) (λ t. omega arith))))))))

pub hex_digit_lem : (b : ℕ) → hex_of b ≤ 16
unfolding hex_of
hex_digit_lem b =
    by_test (AtMost 16) (ltb b 48) (λ t. omega arith) (λ t. by_test (AtMost 16) (leb b 57) (λ u. omega (arith, leb-true b 57 u)) (λ u.
    by_test (AtMost 16) (ltb b 65) (λ t. omega arith) (λ t. by_test (AtMost 16) (leb b 70) (λ u. omega (arith, leb-true b 70 u)) (λ u.
    by_test (AtMost 16) (ltb b 97) (λ t. omega arith) (λ t. by_test (AtMost 16) (leb b 102) (λ u. omega (arith, leb-true b 102 u)) (λ u. omega arith))))))

-- a fact of a number that was read to its end
abbrev pub Read? : (ℕ → Type 0) → ℕ → Read → Type 0
Read? P v (Ok e) = P v
Read? P v (Err e) = Unit

abbrev pub Number : (ℕ → Type 0) → Parsed ℕ → Type 0
Number P p = Read? P p.tree p.read

-- a weaker fact
read_map : (P Q : ℕ → Type 0) (v w : ℕ) (r : Read) → (P v → Q w) → Read? P v r → Read? Q w r
read_map P Q v w (Ok e) f h = f h
read_map P Q v w (Err e) f h = tt

tested_is : (f : ℕ → Bool) (P Q : ℕ → Type 0) → ((v : ℕ) → P v → f v ≡ true → Q v) → (p : Parsed ℕ) → Number P p → Number Q (tested f p)
unfolding tested tested_from
tested_is f P Q g p h = go p.read h
  where
    go : (r : Read) → Read? P p.tree r → Number Q (tested_from f p.tree r)
    go (Ok e) h = by_test (Number Q) (f p.tree) (λ t. g p.tree h t) (λ t. tt)
    go (Err (Stop e)) h = tt
    go (Err (Deep e)) h = tt

pub not_range : (r : Range) (v : ℕ) → in_range r v ≡ false → (v < r.low) ⊎ (r.high < v)
not_range r v h = split (ltb v r.low) (λ e. inl (ltb-true v r.low e)) (λ e. split (ltb r.high v) (λ d. inr (ltb-true r.high v d))
    (λ d. absurd (clash (in_range r v) (in_range_lem r v (ltb-false v r.low e) (ltb-false r.high v d)) h)))

-- digits of a unit, one after another, that do not begin with DC to DF
abbrev Below : ℕ → ℕ → Type 0
Below n v = v < n

abbrev Apart : ℕ → ℕ → ℕ → ℕ → Type 0
Apart n low high v = (v < n) × ((v < low) ⊎ (high < v))

-- a unit that is not 0 and no second half, and a second half
abbrev pub First : ℕ → Type 0
First v = (0 < v) × Apart 65536 56320 57343 v

abbrev pub Second : ℕ → Type 0
Second w = (56320 ≤ w) × (w ≤ 57343)

abbrev Textual : ℕ → Type 0
Textual c = is_textual c ≡ true

module _ (s : List ℕ) where
  digit_is : (P Q : ℕ → Type 0) → ((v d : ℕ) → P v → d < 16 → Q (v * 16 + d)) → (p : Parsed ℕ) → Number P p → Number Q (digit_at s p)
  unfolding digit_at digit_from digit_by
  digit_is P Q f p h = go p.read h
    where
      go : (r : Read) → Read? P p.tree r → Number Q (digit_from s p.tree r)
      go (Ok e) h = by_test (Number Q) (eqb (hex_of (byte s e)) 16) (λ t. tt) (λ t. f p.tree (hex_of (byte s e)) h (omega (arith, hex_digit_lem (byte s e), eqb-false (hex_of (byte s e)) 16 t)))
      go (Err (Stop e)) h = tt
      go (Err (Deep e)) h = tt

  pub unit_is : (at : ℕ) → Number First (unit_at s at)
  unit_is at =
      tested_is (λ (v : ℕ). not (eqb v 0)) (Apart 65536 56320 57343) First (λ v h t. (omega (arith, eqb-false v 0 (not-true (eqb v 0) t)), h)) _
      (digit_is (Apart 4096 3520 3583) (Apart 65536 56320 57343) (λ v d h g. (omega (arith, h.0), four v d h.1 g)) _
      (digit_is (Apart 256 220 223) (Apart 4096 3520 3583) (λ v d h g. (omega (arith, h.0), three v d h.1 g)) _
      (tested_is (λ (v : ℕ). not (in_range (220 to 223) v)) (Below 256) (Apart 256 220 223) (λ v h t. (h, not_range (220 to 223) v (not-true (in_range (220 to 223) v) t))) _
      (digit_is (Below 16) (Below 256) (λ v d h g. omega arith) _ (digit_is (Below 1) (Below 16) (λ v d h g. omega arith) (no_digits at) (omega arith))))))
    where
      three : (v d : ℕ) → (v < 220) ⊎ (223 < v) → d < 16 → (v * 16 + d < 3520) ⊎ (3583 < v * 16 + d)
      three v d (inl h) g = inl (omega arith)
      three v d (inr h) g = inr (omega arith)

      four : (v d : ℕ) → (v < 3520) ⊎ (3583 < v) → d < 16 → (v * 16 + d < 56320) ⊎ (57343 < v * 16 + d)
      four v d (inl h) g = inl (omega arith)
      four v d (inr h) g = inr (omega arith)

  pub second_is : (at : ℕ) → Number Second (second_at s at)
  second_is at =
      digit_is (λ v. (3520 ≤ v) × (v ≤ 3583)) Second (λ v d h g. (omega (arith, h.0), omega (arith, h.1))) _
      (digit_is (λ v. (220 ≤ v) × (v ≤ 223)) (λ v. (3520 ≤ v) × (v ≤ 3583)) (λ v d h g. (omega (arith, h.0), omega (arith, h.1))) _
      (tested_is (in_range (220 to 223)) (λ v. Unit) (λ v. (220 ≤ v) × (v ≤ 223)) (λ v h t. of_range (220 to 223) v t) _
      (digit_is (λ v. Unit) (λ v. Unit) (λ v d h g. tt) _ (tested_is (λ (v : ℕ). eqb v 13) (λ v. Unit) (λ v. Unit) (λ v h t. tt) _
      (digit_is (λ v. Unit) (λ v. Unit) (λ v d h g. tt) (no_digits at) tt)))))

  pub second_from_lem : (r : Read) → Number Second (second_from s r)
  unfolding second_from
  second_from_lem (Ok e) = second_is e
  second_from_lem (Err (Stop e)) = tt
  second_from_lem (Err (Deep e)) = tt

  -- a \u escape stands for a character, and not for U+0000
  pub escaped_is : (at : ℕ) → Number Textual (escaped_at s at)
  unfolding escaped_from paired
  escaped_is at =
      let p : Parsed ℕ = unit_at s at in
      by_test (Number Textual) (is_first_half p.tree)
      (λ t. let q : Parsed ℕ = second_from s (within_at s 117 117 (within_at s 92 92 p.read)) in read_map Second Textual q.tree (pair_of p.tree q.tree) q.read (pair p.tree q.tree (of_range (55296 to 56319) p.tree t)) (second_from_lem (within_at s 117 117 (within_at s 92 92 p.read))))
      (λ t. read_map First Textual p.tree p.tree p.read (unit p.tree (not_range (55296 to 56319) p.tree t)) (unit_is at))
    where
      pair : (v w : ℕ) → (55296 ≤ v) × (v ≤ 56319) → Second w → Textual (pair_of v w)
      pair v w h g = is_textual_lem (pair_of v w) (is_character_lem (pair_of v w) (omega (arith, h.0, h.1, g.0, g.1)) (inr (omega (arith, h.0, h.1)))) (λ z. omega arith)

      both : (v : ℕ) → (v < 55296) ⊎ (56319 < v) → (v < 56320) ⊎ (57343 < v) → (v < 55296) ⊎ (57344 ≤ v)
      both v (inl a) b = inl a
      both v (inr a) (inl b) = absurd (omega arith)
      both v (inr a) (inr b) = inr b

      unit : (v : ℕ) → (v < 55296) ⊎ (56319 < v) → First v → Textual v
      unit v a h = is_textual_lem v (is_character_lem v (omega (arith, h.1.0)) (both v a h.1.1)) (λ z. omega (arith, h.0))

  -- ── what a turn adds is UTF-8 ──
  abbrev Adds : ℕ → Next → Type 0
  Adds at (Continue e) = (c : ℕ) × (is_textual c ≡ true) × (char_bytes s at e (byte s at) ≡ utf8 c)
  Adds at (Break r) = Unit

  unescaped_textual : (c : ℕ) → is_unescaped c ≡ true → is_textual c ≡ true
  unfolding is_unescaped
  unescaped_textual c h =
      let t : Bool = leb 32 c && not (eqb c 34) && not (eqb c 92) in
      let l : 32 ≤ c = leb-true 32 c (and_l (leb 32 c) (not (eqb c 34)) (and_l (leb 32 c && not (eqb c 34)) (not (eqb c 92)) (and_l t (is_character c) h))) in
      is_textual_lem c (and_r t (is_character c) h) (λ z. omega arith)

  adds_plain : (at : ℕ) → eqb (byte s at) 92 ≡ false → Adds at (char_by s at (byte s at))
  unfolding char_bytes
  adds_plain at n = go (char_by s at (byte s at)) (plain_char s at (eqb-false (byte s at) 92 n))
    where
      go : (q : Next) → PlainNext s at q → Adds at q
      go (Continue e) (c, good, le, is) = (c, unescaped_textual c good, rw (char_bytes, n) is)
      go (Break r) h = tt

  adds_unit : (at : ℕ) → eqb (byte s at) 92 ≡ true → eqb (byte s (at + 1)) 117 ≡ true → Adds at (going (escaped_at s (at + 2)).read)
  unfolding going char_bytes
  adds_unit at y u = go (escaped_at s (at + 2)).read (escaped_is (at + 2))
    where
      go : (r : Read) → Read? Textual (escaped_at s (at + 2)).tree r → Adds at (going r)
      go (Ok e) h = ((escaped_at s (at + 2)).tree, h, rw (char_bytes, y, u))
      go (Err (Stop e)) h = tt
      go (Err (Deep e)) h = tt

  adds_short : (at e : ℕ) → eqb (byte s at) 92 ≡ true → eqb (byte s (at + 1)) 117 ≡ false → eqb (short_of (byte s (at + 1))) 0 ≡ false → Adds at (Continue e)
  unfolding char_bytes
  adds_short at e y u n =
      let x : ℕ = short_of (byte s (at + 1)) in
      let l : x ≤ 127 = short_small (byte s (at + 1)) in
      (x, is_textual_lem x (is_character_lem x (omega arith) (inl (omega arith))) (eqb-false x 0 n), rw (char_bytes, y, u) (sym (row_one x (omega arith))))

  adds_escape : (at : ℕ) → eqb (byte s at) 92 ≡ true → Adds at (escape_by s (at + 1) (byte s (at + 1)))
  unfolding escape_by short_of
  adds_escape at y =
      let c : ℕ = byte s (at + 1) in
      let z : at + 1 + 1 ≡ at + 2 = omega arith in
      split (eqb c 117)
      (λ u. let e : c ≡ 117 = eqb-true c 117 u in rw (e, z) (adds_unit at y u))
      (λ u. by_test (Adds at) (eqb (short_of c) 0) (λ t. by_test (Adds at) (eqb c 117) (λ v. absurd (clash (eqb c 117) v u)) (λ v. tt)) (λ t. adds_short at (at + 1 + 1) y u t))

  adds_char : (at : ℕ) → Adds at (char_by s at (byte s at))
  unfolding char_by
  adds_char at = split (eqb (byte s at) 92) (λ y. let e : byte s at ≡ 92 = eqb-true (byte s at) 92 y in back e (adds_escape at y)) (λ n. adds_plain at n)
    where
      back : byte s at ≡ 92 → Adds at (escape_by s (at + 1) (byte s (at + 1))) → Adds at (char_by s at (byte s at))
      back e h = subst (Adds at) (sym (ap (char_by s at) e)) h

  turn_utf8 : (at : ℕ) → is_utf8 (char_turn s at).adds ≡ true
  unfolding char_adds
  turn_utf8 at = go (char_by s at (byte s at)) (adds_char at)
    where
      go : (q : Next) → Adds at q → is_utf8 (char_adds s at q) ≡ true
      go (Continue e) (c, good, is) = rw is (utf8_code c good)
      go (Break r) h = utf8_none

  body_utf8 : (at : ℕ) → is_utf8 (body_at s at).tree ≡ true
  body_utf8 at = run_closed (λ (l : List ℕ). is_utf8 l ≡ true) (char_turn s) utf8_none utf8_append turn_utf8 (length s) at

  -- every string that is read is UTF-8 without 00
  pub string_utf8 : (at : ℕ) → is_utf8 (string_at s at).tree ≡ true
  unfolding string_at and_then
  string_utf8 at = go (within_at s 34 34 (Ok at))
    where
      go : (r : Read) → is_utf8 (and_then [] (body_at s) r).tree ≡ true
      go (Ok e) = body_utf8 e
      go (Err e) = utf8_none

  -- and its elements are bytes
  pub string_octets : (at : ℕ) → all octet (string_at s at).tree ≡ true
  string_octets at = utf8_octets (string_at s at).tree (string_utf8 at)

-- every character of a string stands for the bytes of one character
pub character_meant : CharacterMeant
character_meant s at e h = subst (Adds s at) h (adds_char s at)
