-- Bytes compared one after another, quotes looked for. Assumes nothing.
use Rattle.std.specs.declared.ops.ControlFlow.TheVariants.{Continue, Break}
use Rattle.model.specs.Scan.{Read}
use Rattle.std.specs.Prelude.{Option, Some, None}
use mathlib.Core.Path.{◌≡◌, refl, sym, ◌∙◌}
use mathlib.Core.List.{List, [], ◌∷◌, ◌++◌}
use mathlib.Core.Bool.{Bool, true, false, cond}
use Prim.Native.Nat.{ℕ, suc, ◌+◌, ◌-◌, ◌<◌, ◌≤◌}
use native.Mathlib.Numerals.{add-one}
use native.Mathlib.Omega.{arith}
use lib.Dec.{eqb, ltb}
use borrow.Author.Tests.{ne_eqb, eq-eqb, lt-ltb, le-ltb, ltb-true, ltb-false}
use lib.ListN.{length, get_or, drop, drop_of_length-le}
use lib.Seq.{drop-cons}
use Rattle.model.specs.Octets.{eq_bytes}
use Rattle.model.specs.Scan.{byte, between}
use Rattle.model.specs.Strings.{char_by, char_bytes}
use Rattle.scan.specs.Strings.{is_plain}
use Rattle.scan.proofs.Bytes.{get_d_any, inside_byte}
use Rattle.scan.proofs.Plain.{inside_plain, plain_is, quote_ends}
use Rattle.inner.specs.Positions.{quote_end, quote_from}
use Rattle.nav.proofs.FirstByte.{split}
use Rattle.text.specs.Match.{matched}

-- the first of some bytes, and the rest
pub first_between : (s : List ℕ) (i e : ℕ) → i < e → e ≤ length s → between s i e ≡ get_or s i 0 ∷ between s (i + 1) e
first_between s i e h g =
    let z : e - i ≡ suc (e - (i + 1)) = omega arith in
    let y : suc i ≡ i + 1 = omega arith in
    rw (z, drop-cons s i 0 (omega arith), y)

pub no_between : (s : List ℕ) (i e : ℕ) → e ≤ i → between s i e ≡ []
no_between s i e h = let z : e - i ≡ 0 = omega arith in rw z

module _ (x : ℕ) (xs w : List ℕ) (o : ℕ) where
  pub matched_past : length w ≤ o → matched (x ∷ xs) w o ≡ None
  unfolding matched
  matched_past h = rw (matched, le-ltb o (length w) h)

  pub matched_off : o < length w → (x ≡ get_or w o 0 → ⊥) → matched (x ∷ xs) w o ≡ None
  unfolding matched
  matched_off h n = rw (matched, lt-ltb o (length w) h, ne_eqb x (get_or w o 0) n)

  pub matched_on : o < length w → x ≡ get_or w o 0 → matched (x ∷ xs) w o ≡ matched xs w (o + 1)
  unfolding matched
  matched_on h e = rw (matched, lt-ltb o (length w) h, eq-eqb x (get_or w o 0) e)

-- one byte, and whether it stands there
pub matched_byte : (x : ℕ) (w : List ℕ) (o : ℕ) → x < 256 → x ≡ byte w o → matched (x ∷ []) w o ≡ Some (o + 1)
unfolding matched
matched_byte x w o h e = let l = inside_byte w o x (sym e) h in matched_on x [] w o l (e ∙ get_d_any w o 256 0 l)

pub matched_other : (x : ℕ) (w : List ℕ) (o : ℕ) → (x ≡ byte w o → ⊥) → matched (x ∷ []) w o ≡ None
matched_other x w o n =
    split (ltb o (length w))
    (λ t. let l = ltb-true o (length w) t in matched_off x [] w o l (λ q. n (q ∙ get_d_any w o 0 256 l)))
    (λ t. matched_past x [] w o (ltb-false o (length w) t))

-- a plain byte stands for itself
pub plain_bytes : (s : List ℕ) (i : ℕ) → is_plain (byte s i) ≡ true → char_bytes s i (i + 1) (byte s i) ≡ byte s i ∷ []
unfolding char_bytes
plain_bytes s i h =
    let l = inside_plain s i h in
    rw (char_bytes, ne_eqb _ _ (plain_is (byte s i) h).3, first_between s i (i + 1) (omega arith) (omega arith), no_between s (i + 1) (i + 1) (omega arith), get_d_any s i 0 256 l)

-- what is left to compare after a match
unfoldable pub going_on : List ℕ → List ℕ → Option ℕ → Bool
going_on ys w (Some p) = eq_bytes ys (drop p w)
going_on ys w None = false

pub eq_matched : (xs ys w : List ℕ) (o : ℕ) → eq_bytes (xs ++ ys) (drop o w) ≡ going_on ys w (matched xs w o)
unfolding matched going_on
eq_matched [] ys w o = refl
eq_matched (x ∷ xs) ys w o = go (ltb o (length w)) refl (eqb x (get_or w o 0)) refl (eq_matched xs ys w (o + 1))
  where
    go : (b : Bool) → ltb o (length w) ≡ b → (d : Bool) → eqb x (get_or w o 0) ≡ d → eq_bytes (xs ++ ys) (drop (o + 1) w) ≡ going_on ys w (matched xs w (o + 1)) →
        eq_bytes ((x ∷ xs) ++ ys) (drop o w) ≡ going_on ys w (matched (x ∷ xs) w o)
    go false h d e ih = rw (drop_of_length-le w {i = o} (ltb-false o (length w) h), matched, h)
    go true h true e ih = rw (drop-cons w o 0 (ltb-true o (length w) h), matched, h, e, ← add-one o) ih
    go true h false e ih = rw (drop-cons w o 0 (ltb-true o (length w) h), matched, h, e)

-- a turn of the loop that looks for the quote
module _ (s : List ℕ) (n k i : ℕ) where
  left : k < n → n - k ≡ suc (n - (k + 1))
  left h = omega arith

  pub quote_turn : {e : ℕ} → k < n → (byte s i ≡ 92 → ⊥) → char_by s i (byte s i) ≡ Continue e → quote_from s (n - k) i ≡ quote_from s (n - (k + 1)) e
  unfolding quote_from
  quote_turn h b e = rw (left h, quote_from, ne_eqb _ _ b, e)

  pub quote_done : {r : Read} → k < n → (byte s i ≡ 92 → ⊥) → char_by s i (byte s i) ≡ Break r → quote_from s (n - k) i ≡ quote_end i r
  unfolding quote_from
  quote_done h b e = rw (left h, quote_from, ne_eqb _ _ b, e)

  pub quote_escape : k < n → byte s i ≡ 92 → quote_from s (n - k) i ≡ None
  unfolding quote_from
  quote_escape h b = rw (left h, quote_from, eq-eqb _ _ b)

  pub quote_here : k < n → byte s i ≡ 34 → quote_from s (n - k) i ≡ Some i
  unfolding quote_end
  quote_here h b = quote_done h (λ q. let z : ◌≡◌ {A = ℕ} 34 92 = sym b ∙ q in omega arith) (quote_ends s i (byte s i) b)

  pub quote_spent : n ≤ k → quote_from s (n - k) i ≡ None
  unfolding quote_from
  quote_spent h = let z : n - k ≡ 0 = omega arith in rw z

pub counted_less : (b : Bool) (n : ℕ) → cond b (1 + n) n ≤ 1 + n
counted_less true n = omega arith
counted_less false n = omega arith

-- a match ends within the word
pub matched_le : (xs w : List ℕ) (o p : ℕ) → o ≤ length w → matched xs w o ≡ Some p → p ≤ length w
unfolding matched
matched_le [] w o p h e = let y : o ≡ p = cc in omega arith
matched_le (x ∷ xs) w o p h e = go (ltb o (length w)) refl (eqb x (get_or w o 0)) refl (matched_le xs w (o + 1) p)
  where
    go : (b : Bool) → ltb o (length w) ≡ b → (d : Bool) → eqb x (get_or w o 0) ≡ d → (o + 1 ≤ length w → matched xs w (o + 1) ≡ Some p → p ≤ length w) → p ≤ length w
    go true t true u ih = ih (omega (arith, ltb-true o (length w) t)) (rw (matched, t, u) at e)
    go true t false u ih = absurd (let f : None ≡ Some p = rw (matched, t, u) at e in let y : ◌≡◌ {A = ℕ} 0 1 = cc in omega arith)
    go false t d u ih = absurd (let f : None ≡ Some p = rw (matched, t) at e in let y : ◌≡◌ {A = ℕ} 0 1 = cc in omega arith)

-- nothing is left to compare
pub eq_rest : (w : List ℕ) (o : ℕ) → o ≤ length w → eq_bytes [] (drop o w) ≡ eqb o (length w)
eq_rest w o h =
    split (ltb o (length w))
    (λ t. let l = ltb-true o (length w) t in rw (drop-cons w o 0 l, ne_eqb o (length w) (λ q. omega arith)))
    (λ t. let l = ltb-false o (length w) t in rw (drop_of_length-le w {i = o} l, eq-eqb o (length w) (omega arith)))
