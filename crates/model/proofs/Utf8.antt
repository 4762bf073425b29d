-- UTF-8: a character's bytes are those of a form of RFC 3629 §4, and a text is UTF-8 exactly when it is characters one after another. Assumes nothing.
use Rattle.std.specs.Prelude.{Option, Some, None}
use mathlib.Core.Path.{◌≡◌, refl, sym, ap, subst, ◌∙◌}
use mathlib.Core.Bool.{Bool, true, false, not, ◌&&◌}
use mathlib.Core.List.{List, [], ◌∷◌, ◌++◌, append_assoc, append-nil}
use mathlib.Core.Logic.{◌⊎◌, inl, inr}
use Prim.Native.Nat.{ℕ, ◌+◌, ◌-◌, ◌*◌, ◌/◌, ◌%◌, ◌≤◌, ◌<◌}
use native.Mathlib.Omega.{arith}
use borrow.Author.Tests.{lt-ltb, le-ltb, ne_eqb, le-leb, lt-leb, ltb-true, ltb-false, leb-true, eqb-false, not-true}
use lib.Dec.{eqb, ltb, leb}
use Rattle.model.specs.Base.{all}
use Rattle.model.specs.Strings.{Range, ◌to◌, in_range, is_first_half, is_second_half, is_character, utf8, tail, forms, rest_of}
use Rattle.model.specs.Text.{begins, chars}
use Rattle.model.specs.Value.{utf8_from, is_utf8}
use Rattle.model.specs.Characters.{encoded, is_textual, Utf8Bytes, Utf8Length}
use Rattle.model.proofs.Tests.{split, clash, and_l, and_r}
use Rattle.model.proofs.Lists.{all_cons, all_head, all_tail, all_append}
use Rattle.model.proofs.Octets.{octet}

-- a choice by a test, one side at a time
pub by_test : {A : Type 0} (P : A → Type 0) (b : Bool) {x y : A} → (b ≡ true → P x) → (b ≡ false → P y) → P (elim b [ true ↦ x | false ↦ y ])
by_test P true f g = f refl
by_test P false f g = g refl

-- ── ranges ──
and_false : (b : Bool) → (b && false) ≡ false
and_false true = refl
and_false false = refl

module _ (r : Range) (n : ℕ) where
  pub in_range_lem : r.low ≤ n → n ≤ r.high → in_range r n ≡ true
  unfolding in_range
  in_range_lem h g = rw (le-leb r.low n h, le-leb n r.high g)

  pub over_range : r.high < n → in_range r n ≡ false
  unfolding in_range
  over_range h = rw (lt-leb n r.high h, and_false (leb r.low n))

  pub under_range : n < r.low → in_range r n ≡ false
  unfolding in_range
  under_range h = rw (lt-leb r.low n h)

  pub of_range : in_range r n ≡ true → (r.low ≤ n) × (n ≤ r.high)
  unfolding in_range
  of_range h = (leb-true r.low n (and_l (leb r.low n) (leb n r.high) h), leb-true n r.high (and_r (leb r.low n) (leb n r.high) h))

-- ── characters: at most 10FFFF, and no half of a pair ──
pub is_character_lem : (c : ℕ) → c ≤ 1114111 → (c < 55296) ⊎ (57344 ≤ c) → is_character c ≡ true
unfolding is_character
is_character_lem c h (inl s) = rw (is_character, le-leb c 1114111 h, under_range (55296 to 56319) c (omega arith), under_range (56320 to 57343) c (omega arith))
is_character_lem c h (inr s) = rw (is_character, le-leb c 1114111 h, over_range (55296 to 56319) c (omega arith), over_range (56320 to 57343) c (omega arith))

pub of_character : (c : ℕ) → is_character c ≡ true → (c ≤ 1114111) × ((c < 55296) ⊎ (57344 ≤ c))
unfolding is_character
of_character c h =
    let a : Bool = leb c 1114111 in
    let f : Bool = is_first_half c in
    let g : Bool = is_second_half c in
    let first : f ≡ false = not-true f (and_r a (not f) (and_l (a && not f) (not g) h)) in
    let second : g ≡ false = not-true g (and_r (a && not f) (not g) h) in (
      leb-true c 1114111 (and_l a (not f) (and_l (a && not f) (not g) h)),
      split (ltb c 55296) (λ e. inl (ltb-true c 55296 e)) (λ e.
          split (ltb c 57344) (λ d. absurd (split (ltb c 56320)
          (λ i. clash f (in_range_lem (55296 to 56319) c (ltb-false c 55296 e) (omega (arith, ltb-true c 56320 i))) first)
          (λ i. clash g (in_range_lem (56320 to 57343) c (ltb-false c 56320 i) (omega (arith, ltb-true c 57344 d))) second))) (λ d. inr (ltb-false c 57344 d))),
    )

-- the rows of the table of §3
module _ (c : ℕ) where
  pub row_one : c < 128 → utf8 c ≡ c ∷ []
  unfolding utf8
  row_one h = rw (utf8, lt-ltb c 128 h)

  row_two : 128 ≤ c → c < 2048 → utf8 c ≡ (192 + c / 64) ∷ (128 + c % 64) ∷ []
  unfolding utf8
  row_two l h = rw (utf8, le-ltb c 128 l, lt-ltb c 2048 h)

  row_three : 2048 ≤ c → c < 65536 → utf8 c ≡ (224 + c / 4096) ∷ (128 + c / 64 % 64) ∷ (128 + c % 64) ∷ []
  unfolding utf8
  row_three l h = rw (utf8, le-ltb c 128 (omega arith), le-ltb c 2048 l, lt-ltb c 65536 h)

  row_four : 65536 ≤ c → utf8 c ≡ (240 + c / 262144) ∷ (128 + c / 4096 % 64) ∷ (128 + c / 64 % 64) ∷ (128 + c % 64) ∷ []
  unfolding utf8
  row_four l = rw (utf8, le-ltb c 128 (omega arith), le-ltb c 2048 (omega arith), le-ltb c 65536 l)

-- ── the forms of §4, by their first byte ──
pub data Lead (b : ℕ) : List Range → Type 0 where
  one : b ≤ 127 → Lead b []
  two : 194 ≤ b → b ≤ 223 → Lead b (tail ∷ [])
  three_low : b ≡ 224 → Lead b ((160 to 191) ∷ tail ∷ [])
  three : 225 ≤ b → b ≤ 236 → Lead b (tail ∷ tail ∷ [])
  three_cut : b ≡ 237 → Lead b ((128 to 159) ∷ tail ∷ [])
  three_high : 238 ≤ b → b ≤ 239 → Lead b (tail ∷ tail ∷ [])
  four_low : b ≡ 240 → Lead b ((144 to 191) ∷ tail ∷ tail ∷ [])
  four : 241 ≤ b → b ≤ 243 → Lead b (tail ∷ tail ∷ tail ∷ [])
  four_high : b ≡ 244 → Lead b ((128 to 143) ∷ tail ∷ tail ∷ [])

abbrev LeadOf : ℕ → Option (List Range) → Type 0
LeadOf b None = Unit
LeadOf b (Some xs) = Lead b xs

lead_of : (b : ℕ) → LeadOf b (rest_of b forms)
unfolding rest_of
lead_of b =
    let in_it : (r : Range) → in_range r b ≡ true → (r.low ≤ b) × (b ≤ r.high) = λ r h. of_range r b h in
    by_test (LeadOf b) (in_range (0 to 127) b) (λ t. one (in_it (0 to 127) t).1) (λ t.
    by_test (LeadOf b) (in_range (194 to 223) b) (λ t. two (in_it (194 to 223) t).0 (in_it (194 to 223) t).1) (λ t.
    by_test (LeadOf b) (in_range (224 to 224) b) (λ t. three_low (omega (arith, in_it (224 to 224) t))) (λ t.
    by_test (LeadOf b) (in_range (225 to 236) b) (λ t. three (in_it (225 to 236) t).0 (in_it (225 to 236) t).1) (λ t.
    by_test (LeadOf b) (in_range (237 to 237) b) (λ t. three_cut (omega (arith, in_it (237 to 237) t))) (λ t.
    by_test (LeadOf b) (in_range (238 to 239) b) (λ t. three_high (in_it (238 to 239) t).0 (in_it (238 to 239) t).1) (λ t.
    by_test (LeadOf b) (in_range (240 to 240) b) (λ t. four_low (omega (arith, in_it (240 to 240) t))) (λ t.
    by_test (LeadOf b) (in_range (241 to 243) b) (λ t. four (in_it (241 to 243) t).0 (in_it (241 to 243) t).1) (λ t.
    by_test (LeadOf b) (in_range (244 to 244) b) (λ t. four_high (omega (arith, in_it (244 to 244) t))) (λ t. tt)))))))))

pub lead : (b : ℕ) {xs : List Range} → rest_of b forms ≡ Some xs → Lead b xs
lead b h = subst (LeadOf b) h (lead_of b)

module _ (b : ℕ) (x : Range) (xs : List Range) (fs : List (List Range)) where
  here : x.low ≤ b → b ≤ x.high → rest_of b ((x ∷ xs) ∷ fs) ≡ Some xs
  unfolding rest_of
  here h g = rw (rest_of, in_range_lem x b h g)

  past : x.high < b → rest_of b ((x ∷ xs) ∷ fs) ≡ rest_of b fs
  unfolding rest_of
  past h = rw (rest_of, over_range x b h)

  under : b < x.low → rest_of b ((x ∷ xs) ∷ fs) ≡ rest_of b fs
  unfolding rest_of
  under h = rw (rest_of, under_range x b h)

pub rest_of_lem : {b : ℕ} {xs : List Range} → Lead b xs → rest_of b forms ≡ Some xs
rest_of_lem {b} (one h) = here b _ _ _ (omega arith) h
rest_of_lem {b} (two h g) = past b _ _ _ (omega arith) ∙ here b _ _ _ h g
rest_of_lem {b} (three_low e) = past b _ _ _ (omega arith) ∙ past b _ _ _ (omega arith) ∙ here b _ _ _ (omega arith) (omega arith)
rest_of_lem {b} (three h g) = past b _ _ _ (omega arith) ∙ past b _ _ _ (omega arith) ∙ past b _ _ _ (omega arith) ∙ here b _ _ _ h g
rest_of_lem {b} (three_cut e) =
    past b _ _ _ (omega arith) ∙ past b _ _ _ (omega arith) ∙ past b _ _ _ (omega arith) ∙ past b _ _ _ (omega arith) ∙ here b _ _ _ (omega arith) (omega arith)
rest_of_lem {b} (three_high h g) =
    past b _ _ _ (omega arith) ∙ past b _ _ _ (omega arith) ∙ past b _ _ _ (omega arith) ∙ past b _ _ _ (omega arith) ∙ past b _ _ _ (omega arith) ∙ here b _ _ _ h g
rest_of_lem {b} (four_low e) =
    past b _ _ _ (omega arith) ∙ past b _ _ _ (omega arith) ∙ past b _ _ _ (omega arith) ∙ past b _ _ _ (omega arith) ∙ past b _ _ _ (omega arith) ∙ past b _ _ _ (omega arith)
    ∙ here b _ _ _ (omega arith) (omega arith)
rest_of_lem {b} (four h g) =
    past b _ _ _ (omega arith) ∙ past b _ _ _ (omega arith) ∙ past b _ _ _ (omega arith) ∙ past b _ _ _ (omega arith) ∙ past b _ _ _ (omega arith) ∙ past b _ _ _ (omega arith)
    ∙ past b _ _ _ (omega arith) ∙ here b _ _ _ h g
rest_of_lem {b} (four_high e) =
    past b _ _ _ (omega arith) ∙ past b _ _ _ (omega arith) ∙ past b _ _ _ (omega arith) ∙ past b _ _ _ (omega arith) ∙ past b _ _ _ (omega arith) ∙ past b _ _ _ (omega arith)
    ∙ past b _ _ _ (omega arith) ∙ past b _ _ _ (omega arith) ∙ here b _ _ _ (omega arith) (omega arith)

-- a byte that no form begins with
at_end : (b : ℕ) → rest_of b [] ≡ None
unfolding rest_of
at_end b = refl

pub no_lead : (b : ℕ) → ((127 < b) × (b < 194)) ⊎ (244 < b) → rest_of b forms ≡ None
no_lead b (inl h) =
    past b _ _ _ h.0 ∙ under b _ _ _ h.1 ∙ under b _ _ _ (omega (arith, h.1)) ∙ under b _ _ _ (omega (arith, h.1)) ∙ under b _ _ _ (omega (arith, h.1))
    ∙ under b _ _ _ (omega (arith, h.1)) ∙ under b _ _ _ (omega (arith, h.1)) ∙ under b _ _ _ (omega (arith, h.1)) ∙ under b _ _ _ (omega (arith, h.1)) ∙ at_end b
no_lead b (inr h) =
    past b _ _ _ (omega arith) ∙ past b _ _ _ (omega arith) ∙ past b _ _ _ (omega arith) ∙ past b _ _ _ (omega arith) ∙ past b _ _ _ (omega arith)
    ∙ past b _ _ _ (omega arith) ∙ past b _ _ _ (omega arith) ∙ past b _ _ _ (omega arith) ∙ past b _ _ _ h ∙ at_end b

-- and every other byte from C2 on begins one
pub lead_at : (b : ℕ) → 194 ≤ b → b ≤ 244 → (xs : List Range) × Lead b xs
lead_at b l h = split (ltb b 224) (λ e. (_, two l (omega (arith, ltb-true b 224 e)))) (λ e0. let k0 = ltb-false b 224 e0 in
    split (ltb b 225) (λ e. (_, three_low (omega (arith, ltb-true b 225 e)))) (λ e1. let k1 = ltb-false b 225 e1 in
    split (ltb b 237) (λ e. (_, three k1 (omega (arith, ltb-true b 237 e)))) (λ e2. let k2 = ltb-false b 237 e2 in
    split (ltb b 238) (λ e. (_, three_cut (omega (arith, ltb-true b 238 e)))) (λ e3. let k3 = ltb-false b 238 e3 in
    split (ltb b 240) (λ e. (_, three_high k3 (omega (arith, ltb-true b 240 e)))) (λ e4. let k4 = ltb-false b 240 e4 in
    split (ltb b 241) (λ e. (_, four_low (omega (arith, ltb-true b 241 e)))) (λ e5. let k5 = ltb-false b 241 e5 in
    split (ltb b 244) (λ e. (_, four k5 (omega (arith, ltb-true b 244 e)))) (λ e6. (_, four_high (omega (arith, ltb-false b 244 e6))))))))))

-- bytes in the ranges of a form
pub data Fits : List Range → List ℕ → Type 0 where
  done : Fits [] []
  next : {x : Range} {xs : List Range} {b : ℕ} {bs : List ℕ} → x.low ≤ b → b ≤ x.high → Fits xs bs → Fits (x ∷ xs) (b ∷ bs)

-- after the first byte come continuation bytes
abbrev pub Tails : List Range → Type 0
Tails [] = Unit
Tails (x ∷ xs) = (128 ≤ x.low) × (x.high ≤ 191) × Tails xs

pub lead_tails : {b : ℕ} {xs : List Range} → Lead b xs → Tails xs
lead_tails (one h) = tt
lead_tails (two h g) = (omega arith, omega arith, tt)
lead_tails (three_low e) = (omega arith, omega arith, (omega arith, omega arith, tt))
lead_tails (three h g) = (omega arith, omega arith, (omega arith, omega arith, tt))
lead_tails (three_cut e) = (omega arith, omega arith, (omega arith, omega arith, tt))
lead_tails (three_high h g) = (omega arith, omega arith, (omega arith, omega arith, tt))
lead_tails (four_low e) = (omega arith, omega arith, (omega arith, omega arith, (omega arith, omega arith, tt)))
lead_tails (four h g) = (omega arith, omega arith, (omega arith, omega arith, (omega arith, omega arith, tt)))
lead_tails (four_high e) = (omega arith, omega arith, (omega arith, omega arith, (omega arith, omega arith, tt)))

-- ── a character's bytes have a form ──
pub data Formed : List ℕ → Type 0 where
  formed : {b : ℕ} {bs : List ℕ} {xs : List Range} → Lead b xs → Fits xs bs → Formed (b ∷ bs)

pub utf8_formed : (c : ℕ) → is_character c ≡ true → Formed (utf8 c)
utf8_formed c good =
    let top = (of_character c good).0 in
    split (ltb c 128) (λ e. rw (row_one c (ltb-true c 128 e)) (formed {b = c} (one (omega (arith, ltb-true c 128 e))) done)) (λ e1.
    let l1 = ltb-false c 128 e1 in
    split (ltb c 2048) (λ e. let h = ltb-true c 2048 e in rw (row_two c l1 h) (formed {b = 192 + c / 64} (two (omega arith) (omega arith)) (next {x = tail} {b = 128 + c % 64} (omega arith) (omega arith) done))) (λ e2.
    let l2 = ltb-false c 2048 e2 in
    split (ltb c 65536) (λ e. let h = ltb-true c 65536 e in rw (row_three c l2 h) (of_three l2 h (of_character c good).1)) (λ e3.
    let l3 = ltb-false c 65536 e3 in
    rw (row_four c l3) (of_four l3 top))))
  where
    of_three : 2048 ≤ c → c < 65536 → (c < 55296) ⊎ (57344 ≤ c) → Formed ((224 + c / 4096) ∷ (128 + c / 64 % 64) ∷ (128 + c % 64) ∷ [])
    of_three l h (inl s) = split (ltb c 4096)
        (λ e. let g = ltb-true c 4096 e in formed (three_low (omega arith)) (next (omega arith) (omega arith) (next (omega arith) (omega arith) done)))
        (λ e. let k = ltb-false c 4096 e in split (ltb c 53248)
        (λ d. let g = ltb-true c 53248 d in formed (three (omega arith) (omega arith)) (next (omega arith) (omega arith) (next (omega arith) (omega arith) done)))
        (λ d. let g = ltb-false c 53248 d in formed (three_cut (omega arith)) (next (omega arith) (omega arith) (next (omega arith) (omega arith) done))))
    of_three l h (inr s) =
        formed {b = 224 + c / 4096} (three_high (omega arith) (omega arith)) (next {x = tail} {b = 128 + c / 64 % 64} (omega arith) (omega arith) (next {x = tail} {b = 128 + c % 64} (omega arith) (omega arith) done))

    of_four : 65536 ≤ c → c ≤ 1114111 → Formed ((240 + c / 262144) ∷ (128 + c / 4096 % 64) ∷ (128 + c / 64 % 64) ∷ (128 + c % 64) ∷ [])
    of_four l h = split (ltb c 262144)
        (λ e. let g = ltb-true c 262144 e in formed (four_low (omega arith)) (next (omega arith) (omega arith) (next (omega arith) (omega arith) (next (omega arith) (omega arith) done))))
        (λ e. let k = ltb-false c 262144 e in split (ltb c 1048576)
        (λ d. let g = ltb-true c 1048576 d in formed (four (omega arith) (omega arith)) (next (omega arith) (omega arith) (next (omega arith) (omega arith) (next (omega arith) (omega arith) done))))
        (λ d. let g = ltb-false c 1048576 d in formed (four_high (omega arith)) (next (omega arith) (omega arith) (next (omega arith) (omega arith) (next (omega arith) (omega arith) done)))))

-- ── and what has a form is a character's bytes ──
abbrev pub Char : List ℕ → Type 0
Char bs = (c : ℕ) × (is_character c ≡ true) × (utf8 c ≡ bs)

abbrev code3 : ℕ → ℕ → ℕ → ℕ
code3 b x y = (b - 224) * 4096 + (x - 128) * 64 + (y - 128)

abbrev code4 : ℕ → ℕ → ℕ → ℕ → ℕ
code4 b x y z = (b - 240) * 262144 + (x - 128) * 4096 + (y - 128) * 64 + (z - 128)

char_two : (b x : ℕ) → 194 ≤ b → b ≤ 223 → 128 ≤ x → x ≤ 191 → Char (b ∷ x ∷ [])
char_two b x p q l h =
    let c : ℕ = (b - 192) * 64 + (x - 128) in
    let e1 : 192 + c / 64 ≡ b = omega arith in
    let e2 : 128 + c % 64 ≡ x = omega arith in
    (c, is_character_lem c (omega arith) (inl (omega arith)), row_two c (omega arith) (omega arith) ∙ cc)

char_three : (b x y : ℕ) → 224 ≤ b → b ≤ 239 → 128 ≤ x → x ≤ 191 → 128 ≤ y → y ≤ 191 → 2048 ≤ code3 b x y → (code3 b x y < 55296) ⊎ (57344 ≤ code3 b x y) → Char (b ∷ x ∷ y ∷ [])
char_three b x y p q l h l' h' big half =
    let c : ℕ = code3 b x y in
    let e1 : 224 + c / 4096 ≡ b = omega arith in
    let e2 : 128 + c / 64 % 64 ≡ x = omega arith in
    let e3 : 128 + c % 64 ≡ y = omega arith in
    (c, is_character_lem c (omega arith) half, row_three c big (omega arith) ∙ cc)

char_four : (b x y z : ℕ) → 240 ≤ b → b ≤ 244 → 128 ≤ x → x ≤ 191 → 128 ≤ y → y ≤ 191 → 128 ≤ z → z ≤ 191 → 65536 ≤ code4 b x y z → code4 b x y z ≤ 1114111 → Char (b ∷ x ∷ y ∷ z ∷ [])
char_four b x y z p q l h l' h' l'' h'' big top =
    let c : ℕ = code4 b x y z in
    let e1 : 240 + c / 262144 ≡ b = omega arith in
    let e2 : 128 + c / 4096 % 64 ≡ x = omega arith in
    let e3 : 128 + c / 64 % 64 ≡ y = omega arith in
    let e4 : 128 + c % 64 ≡ z = omega arith in
    (c, is_character_lem c top (inr (omega arith)), row_four c big ∙ cc)

pub char_of : {b : ℕ} {bs : List ℕ} {xs : List Range} → Lead b xs → Fits xs bs → Char (b ∷ bs)
char_of {b} (one h) done = (b, is_character_lem b (omega arith) (inl (omega arith)), row_one b (omega arith))
char_of {b} (two p q) (next {b = x} l h done) = char_two b x p q l h
char_of {b} (three_low e) (next {b = x} l h (next {b = y} l' h' done)) = char_three b x y (omega arith) (omega arith) (omega arith) h l' h' (omega arith) (inl (omega arith))
char_of {b} (three p q) (next {b = x} l h (next {b = y} l' h' done)) = char_three b x y (omega arith) (omega arith) l h l' h' (omega arith) (inl (omega arith))
char_of {b} (three_cut e) (next {b = x} l h (next {b = y} l' h' done)) = char_three b x y (omega arith) (omega arith) l (omega arith) l' h' (omega arith) (inl (omega arith))
char_of {b} (three_high p q) (next {b = x} l h (next {b = y} l' h' done)) = char_three b x y (omega arith) (omega arith) l h l' h' (omega arith) (inr (omega arith))
char_of {b} (four_low e) (next {b = x} l h (next {b = y} l' h' (next {b = z} l'' h'' done))) =
    char_four b x y z (omega arith) (omega arith) (omega arith) h l' h' l'' h'' (omega arith) (omega arith)
char_of {b} (four p q) (next {b = x} l h (next {b = y} l' h' (next {b = z} l'' h'' done))) =
    char_four b x y z (omega arith) (omega arith) l h l' h' l'' h'' (omega arith) (omega arith)
char_of {b} (four_high e) (next {b = x} l h (next {b = y} l' h' (next {b = z} l'' h'' done))) =
    char_four b x y z (omega arith) (omega arith) l (omega arith) l' h' l'' h'' (omega arith) (omega arith)

-- ── texts ──
fits_from : {xs : List Range} {bs : List ℕ} → Fits xs bs → (rest : List ℕ) → utf8_from xs (bs ++ rest) ≡ utf8_from [] rest
fits_from done rest = refl
fits_from (next {x = x} {b = b} l h f) rest = rw (in_range_lem x b l h) (fits_from f rest)

lead_from : {b : ℕ} {xs : List Range} → Lead b xs → (b ≡ 0 → ⊥) → (bs : List ℕ) → utf8_from [] (b ∷ bs) ≡ utf8_from xs bs
lead_from {b} l n bs = rw (utf8_from, ne_eqb b 0 n, rest_of_lem l)

-- the first byte is the character itself, or both are no ASCII
pub first_byte : {b : ℕ} {bs : List ℕ} (c : ℕ) → utf8 c ≡ b ∷ bs → (c ≡ b) ⊎ ((128 ≤ c) × (128 ≤ b))
first_byte {b} c h = split (ltb c 128)
    (λ e. inl (head (sym (row_one c (ltb-true c 128 e)) ∙ h)))
    (λ e. let l = ltb-false c 128 e in inr (
      l,
      split (ltb c 2048)
          (λ d. let y : 192 + c / 64 ≡ b = head (sym (row_two c l (ltb-true c 2048 d)) ∙ h) in omega arith)
          (λ d. split (ltb c 65536)
          (λ i. let y : 224 + c / 4096 ≡ b = head (sym (row_three c (ltb-false c 2048 d) (ltb-true c 65536 i)) ∙ h) in omega arith)
          (λ i. let y : 240 + c / 262144 ≡ b = head (sym (row_four c (ltb-false c 65536 i)) ∙ h) in omega arith)),
    ))
  where
    head : {x y : ℕ} {xs ys : List ℕ} → x ∷ xs ≡ y ∷ ys → x ≡ y
    head e = cc

-- so that one is 0 only where the other is
both_zero : {c b : ℕ} → (c ≡ b) ⊎ ((128 ≤ c) × (128 ≤ b)) → (b ≡ 0 → c ≡ 0) × (c ≡ 0 → b ≡ 0)
both_zero (inl e) = (λ z. omega arith, λ z. omega arith)
both_zero (inr h) = (λ z. absurd (omega (arith, h.1)), λ z. absurd (omega (arith, h.0)))

pub textual_character : (c : ℕ) → is_textual c ≡ true → is_character c ≡ true
textual_character c h = and_l (is_character c) (not (eqb c 0)) h

textual_not_zero : (c : ℕ) → is_textual c ≡ true → c ≡ 0 → ⊥
textual_not_zero c h = eqb-false c 0 (not-true (eqb c 0) (and_r (is_character c) (not (eqb c 0)) h))

pub is_textual_lem : (c : ℕ) → is_character c ≡ true → (c ≡ 0 → ⊥) → is_textual c ≡ true
is_textual_lem c h n = rw (h, ne_eqb c 0 n)

-- characters one after another
one_more : (c : ℕ) → is_textual c ≡ true → (rest : List ℕ) → utf8_from [] (utf8 c ++ rest) ≡ utf8_from [] rest
one_more c h rest = go (utf8 c) refl (utf8_formed c (textual_character c h))
  where
    go : (l : List ℕ) → utf8 c ≡ l → Formed l → utf8_from [] (l ++ rest) ≡ utf8_from [] rest
    go [] e f = elim f [ ]
    go (b ∷ bs) e (formed l f) = lead_from l (λ z. textual_not_zero c h ((both_zero (first_byte c e)).0 z)) (bs ++ rest) ∙ fits_from f rest

encoded_from : (cs : List ℕ) → all is_textual cs ≡ true → utf8_from [] (encoded cs) ≡ true
encoded_from [] h = refl
encoded_from (c ∷ cs) h = one_more c (all_head is_textual c cs h) (encoded cs) ∙ encoded_from cs (all_tail is_textual c cs h)

-- the bytes that are due, and characters after them
abbrev Parted : List Range → List ℕ → Type 0
Parted xs t = (bs : List ℕ) × (cs : List ℕ) × Fits xs bs × (all is_textual cs ≡ true) × (t ≡ bs ++ encoded cs)

parted : (xs : List Range) (t : List ℕ) → utf8_from xs t ≡ true → Parted xs t
parted [] [] h = ([], [], done, refl, refl)
parted (x ∷ xs) [] h = absurd (clash false h refl)
parted [] (b ∷ t) h = split (eqb b 0) (λ e. absurd (clash false (rw (utf8_from, e) at h) refl)) (λ e. go (rest_of b forms) refl e (λ ys. parted ys t))
  where
    join : (bs cs : List ℕ) → (b ≡ 0 → ⊥) → Char (b ∷ bs) → all is_textual cs ≡ true → t ≡ bs ++ encoded cs → Parted [] (b ∷ t)
    join bs cs n (c, good, is) h e =
        ([], c ∷ cs, done, all_cons is_textual c cs (is_textual_lem c good (λ z. n ((both_zero (first_byte c is)).1 z))) h, ap (λ l. b ∷ l) e ∙ ap (λ l. l ++ encoded cs) (sym is))

    go : (o : Option (List Range)) → rest_of b forms ≡ o → eqb b 0 ≡ false → ((ys : List Range) → utf8_from ys t ≡ true → Parted ys t) → Parted [] (b ∷ t)
    go None q e ih = absurd (clash false (rw (utf8_from, e, q) at h) refl)
    go (Some ys) q e ih =
        let r = ih ys (rw (utf8_from, e, q) at h) in
        join r.0 r.1 (eqb-false b 0 e) (char_of (lead b q) r.2) r.3 r.4
parted (x ∷ xs) (b ∷ t) h =
    let r = parted xs t (and_r (in_range x b) (utf8_from xs t) h) in
    let i = of_range x b (and_l (in_range x b) (utf8_from xs t) h) in
    (b ∷ r.0, r.1, next i.0 i.1 r.2, r.3, ap (λ l. b ∷ l) r.4)

-- UTF-8 without 00 is characters other than U+0000, one after another
pub utf8_bytes : Utf8Bytes
unfolding is_utf8
utf8_bytes t = (there t, λ w. rw w.2 (encoded_from w.0 w.1))
  where
    there : (t : List ℕ) → utf8_from [] t ≡ true → (cs : List ℕ) × (all is_textual cs ≡ true) × (t ≡ encoded cs)
    there t h = none_due (parted [] t h)
      where
        none_due : Parted [] t → (cs : List ℕ) × (all is_textual cs ≡ true) × (t ≡ encoded cs)
        none_due (bs, cs, f, g, e) = (cs, g, e ∙ ap (λ l. l ++ encoded cs) (empty f))
          where
            empty : {bs : List ℕ} → Fits [] bs → bs ≡ []
            empty done = refl

pub utf8_none : is_utf8 [] ≡ true
unfolding is_utf8
utf8_none = refl

encoded_append : (cs ds : List ℕ) → encoded (cs ++ ds) ≡ encoded cs ++ encoded ds
encoded_append [] ds = refl
encoded_append (c ∷ cs) ds = ap (λ l. utf8 c ++ l) (encoded_append cs ds) ∙ sym (append_assoc (utf8 c) (encoded cs) (encoded ds))

pub utf8_append : (a b : List ℕ) → is_utf8 a ≡ true → is_utf8 b ≡ true → is_utf8 (a ++ b) ≡ true
utf8_append a b h g =
    let x = (utf8_bytes a).0 h in
    let y = (utf8_bytes b).0 g in
    (utf8_bytes (a ++ b)).1 (x.0 ++ y.0, all_append is_textual x.0 y.0 x.1 y.1, ap (λ l. l ++ b) x.2 ∙ ap (λ l. encoded x.0 ++ l) y.2 ∙ sym (encoded_append x.0 y.0))

-- the bytes of one character
pub utf8_code : (c : ℕ) → is_textual c ≡ true → is_utf8 (utf8 c) ≡ true
utf8_code c h = (utf8_bytes (utf8 c)).1 (c ∷ [], all_cons is_textual c [] h refl, sym (append-nil (utf8 c)))

-- ── a text is bytes ──
pub lead_small : {b : ℕ} {xs : List Range} → Lead b xs → b < 256
lead_small (one h) = omega arith
lead_small (two h g) = omega arith
lead_small (three_low e) = omega arith
lead_small (three h g) = omega arith
lead_small (three_cut e) = omega arith
lead_small (three_high h g) = omega arith
lead_small (four_low e) = omega arith
lead_small (four h g) = omega arith
lead_small (four_high e) = omega arith

fits_octets : {xs : List Range} {bs : List ℕ} → Tails xs → Fits xs bs → all octet bs ≡ true
fits_octets t done = refl
fits_octets t (next {b = b} {bs = bs} l h f) = all_cons octet b bs (lt-ltb b 256 (omega (arith, t.1))) (fits_octets t.2 f)

formed_octets : {l : List ℕ} → Formed l → all octet l ≡ true
formed_octets (formed {b = b} {bs = bs} l f) = all_cons octet b bs (lt-ltb b 256 (lead_small l)) (fits_octets (lead_tails l) f)

encoded_octets : (cs : List ℕ) → all is_textual cs ≡ true → all octet (encoded cs) ≡ true
encoded_octets [] h = refl
encoded_octets (c ∷ cs) h =
    all_append octet (utf8 c) (encoded cs) (formed_octets (utf8_formed c (textual_character c (all_head is_textual c cs h)))) (encoded_octets cs (all_tail is_textual c cs h))

pub utf8_octets : (a : List ℕ) → is_utf8 a ≡ true → all octet a ≡ true
utf8_octets a h = let x = (utf8_bytes a).0 h in rw x.2 (encoded_octets x.0 x.1)

-- ── the length in characters ──
begins_not : (b : ℕ) → 128 ≤ b → b < 192 → begins b ≡ false
unfolding begins
begins_not b l h = rw (begins, le-ltb b 128 l, lt-ltb b 192 h)

begins_low : (b : ℕ) → b < 128 → begins b ≡ true
unfolding begins
begins_low b h = rw (begins, lt-ltb b 128 h)

begins_high : (b : ℕ) → 192 ≤ b → begins b ≡ true
unfolding begins
begins_high b h = rw (begins, le-ltb b 128 (omega arith), le-ltb b 192 h)

lead_begins : {b : ℕ} {xs : List Range} → Lead b xs → begins b ≡ true
lead_begins {b} (one h) = begins_low b (omega arith)
lead_begins {b} (two h g) = begins_high b (omega arith)
lead_begins {b} (three_low e) = begins_high b (omega arith)
lead_begins {b} (three h g) = begins_high b (omega arith)
lead_begins {b} (three_cut e) = begins_high b (omega arith)
lead_begins {b} (three_high h g) = begins_high b (omega arith)
lead_begins {b} (four_low e) = begins_high b (omega arith)
lead_begins {b} (four h g) = begins_high b (omega arith)
lead_begins {b} (four_high e) = begins_high b (omega arith)

fits_chars : {xs : List Range} {bs : List ℕ} → Tails xs → Fits xs bs → (rest : List ℕ) → chars (bs ++ rest) ≡ chars rest
unfolding chars
fits_chars t done rest = refl
fits_chars t (next {b = b} l h f) rest = rw (chars, begins_not b (omega (arith, t.0)) (omega (arith, t.1))) (fits_chars t.2 f rest)

formed_chars : {l : List ℕ} → Formed l → (rest : List ℕ) → chars (l ++ rest) ≡ 1 + chars rest
unfolding chars
formed_chars (formed {b = b} l f) rest = rw (chars, lead_begins l) (ap (λ n. 1 + n) (fits_chars (lead_tails l) f rest))

-- a text has as many characters as it is made of
pub utf8_length : Utf8Length
unfolding chars
utf8_length [] h = refl
utf8_length (c ∷ cs) h =
    formed_chars (utf8_formed c (textual_character c (all_head is_textual c cs h))) (encoded cs) ∙ omega (arith, utf8_length cs (all_tail is_textual c cs h))
