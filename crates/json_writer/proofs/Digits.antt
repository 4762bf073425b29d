-- Decimal digits, written from the last one on. Assumes nothing.
use mathlib.Core.Path.{◌≡◌, ap, ◌∙◌}
use mathlib.Core.List.{List, ◌∷◌}
use Prim.Native.Nat.{ℕ, suc, ◌+◌, ◌/◌, ◌%◌, ◌<◌, ◌≤◌}
use native.Mathlib.Nat.{mod-eq_of_lt}
use native.Mathlib.Omega.{arith}
use lib.ListN.{length, take, drop, set}
use lib.Seq.{set_split, drop_at, length-take-le}
use borrow.Author.Tests.{lt-ltb, le-ltb}
use Rattle.model.specs.Answers.{digits_before}

pub drop_set : (l : List ℕ) (i x : ℕ) → i < length l → drop i (set l i x) ≡ x ∷ drop (suc i) l
drop_set l i x h = ap (drop i) (set_split l i x h) ∙ drop_at (take i l) (x ∷ drop (suc i) l) i (length-take-le i l (omega arith))

module _ (ds : List ℕ) (k v i : ℕ) (e : i ≡ suc k) (h : k < length ds) where
  -- a digit that has others before it
  pub digit_more : 10 ≤ v → digits_before i v (drop i ds) ≡ digits_before k (v / 10) (drop k (set ds k (48 + v % 10)))
  digit_more g = rw (e, digits_before, le-ltb v 10 g, drop_set ds k (48 + v % 10) h)

  -- the first digit
  pub digit_first : v < 10 → digits_before i v (drop i ds) ≡ drop k (set ds k (48 + v % 10))
  digit_first g = rw (e, digits_before, lt-ltb v 10 g, drop_set ds k (48 + v % 10) h, mod-eq_of_lt g)
