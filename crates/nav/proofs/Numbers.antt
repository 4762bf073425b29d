-- Laws of integers as written. Assumes nothing.
use Rattle.std.specs.Prelude.{None}
use mathlib.Core.Path.{◌≡◌, refl}
use mathlib.Core.List.{List, [], ◌∷◌}
use mathlib.Core.Bool.{Bool, true, false}
use Prim.Native.Nat.{ℕ, suc, ◌+◌, ◌-◌, ◌*◌, ◌<◌, ◌≤◌}
use native.Mathlib.Omega.{arith}
use lib.ListN.{length}
use lib.Seq.{drop-cons}
use borrow.Author.Tests.{lt-ltb, ne_eqb}
use Rattle.model.specs.Scan.{byte, between, is_digit}
use Rattle.model.specs.Json.{Json, null, bool, num, str, arr, obj}
use Rattle.model.specs.declared.Kind.{Kind}
use Rattle.model.specs.declared.Kind.TheVariants.{Null, Truth, Number, Text, Array, Object}
use Rattle.model.specs.Nav.{kind_of}
use Rattle.inner.specs.Positions.{is_number}
use Rattle.model.specs.declared.Whole.TheVariants.{Other}
use Rattle.model.specs.Whole.{sized, plus_of, minus_of, whole_text, whole_of}

-- bytes from one position up to another: the first and the rest
module _ (s : List ℕ) (i end : ℕ) where
  pub between_more : i < end → end ≤ length s → between s i end ≡ byte s i ∷ between s (i + 1) end
  between_more h g =
      let z : end - i ≡ suc (end - (i + 1)) = omega arith in
      let y : suc i ≡ i + 1 = omega arith in
      rw (z, drop-cons s i 256 (omega arith), y)

  pub between_none : end ≤ i → between s i end ≡ []
  between_none h = let z : end - i ≡ 0 = omega arith in rw z

-- a number that is too large stays so
pub sized_large : (acc : ℕ) (bs : List ℕ) → 9223372036854775808 < acc → sized acc bs ≡ None
unfolding sized
sized_large acc [] h = rw (sized, lt-ltb _ _ h)
sized_large acc (b ∷ bs) h = go (is_digit b) refl (sized_large (acc * 10 + (b - 48)) bs (omega arith))
  where
    go : (d : Bool) → is_digit b ≡ d → sized (acc * 10 + (b - 48)) bs ≡ None → sized acc (b ∷ bs) ≡ None
    go true t ih = rw (sized, t) ih
    go false t ih = rw (sized, t)

module _ (acc b : ℕ) (bs : List ℕ) where
  pub sized_digit : is_digit b ≡ true → sized acc (b ∷ bs) ≡ sized (acc * 10 + (b - 48)) bs
  unfolding sized
  sized_digit h = rw (sized, h)

  pub sized_other : is_digit b ≡ false → sized acc (b ∷ bs) ≡ None
  unfolding sized
  sized_other h = rw (sized, h)

-- the text of a number, by its first byte
module _ (s : List ℕ) (i end : ℕ) where
  pub text_none : end ≤ i → Other ≡ whole_text (between s i end)
  unfolding whole_text
  text_none h = rw (between_none s i end h)

  pub text_minus : i < end → end ≤ length s → byte s i ≡ 45 → minus_of (sized 0 (between s (i + 1) end)) ≡ whole_text (between s i end)
  unfolding whole_text
  text_minus h g m = rw (between_more s i end h g, whole_text, m)

  pub text_plus : i < end → end ≤ length s → (byte s i ≡ 45 → ⊥) → plus_of (sized 0 (between s i end)) ≡ whole_text (between s i end)
  unfolding whole_text
  text_plus h g m = rw (between_more s i end h g, whole_text, ne_eqb _ _ m)

-- an integer is a number
pub number_kind : (k : Kind) → is_number k ≡ true → k ≡ Number
number_kind Number h = refl
number_kind Null h = absurd (let z : ◌≡◌ {A = ℕ} 0 1 = cc in omega arith)
number_kind Truth h = absurd (let z : ◌≡◌ {A = ℕ} 0 1 = cc in omega arith)
number_kind Text h = absurd (let z : ◌≡◌ {A = ℕ} 0 1 = cc in omega arith)
number_kind Array h = absurd (let z : ◌≡◌ {A = ℕ} 0 1 = cc in omega arith)
number_kind Object h = absurd (let z : ◌≡◌ {A = ℕ} 0 1 = cc in omega arith)

pub whole_not : (j : Json) → is_number (kind_of j) ≡ false → Other ≡ whole_of j
unfolding kind_of whole_of
whole_not null h = refl
whole_not (bool b) h = refl
whole_not (num t) h = absurd (let z : ◌≡◌ {A = ℕ} 0 1 = cc in omega arith)
whole_not (str t) h = refl
whole_not (arr xs) h = refl
whole_not (obj ms) h = refl

pub whole_num : {j : Json} {t : List ℕ} → j ≡ num t → whole_text t ≡ whole_of j
unfolding whole_of
whole_num h = rw h

pub whole_none : {j : Json} → j ≡ num [] → Other ≡ whole_of j
unfolding whole_of whole_text
whole_none h = rw h
