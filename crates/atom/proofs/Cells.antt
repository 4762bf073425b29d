-- Tests over a list, one element after another from its front. Assumes nothing.
use mathlib.Core.Path.{◌≡◌, refl}
use mathlib.Core.Bool.{Bool, true, false, ◌&&◌}
use mathlib.Core.List.{List}
use Prim.Native.Nat.{ℕ, suc, ◌+◌, ◌≤◌, ◌<◌}
use native.Mathlib.Numerals.{add-one}
use lib.ListN.{length, drop, get_or, drop_of_length-le}
use lib.Seq.{drop-cons}
use Rattle.model.specs.Base.{all}

pub and_assoc : (a b c : Bool) → (a && (b && c)) ≡ ((a && b) && c)
and_assoc true b c = refl
and_assoc false b c = refl

pub and_true : (a : Bool) → (a && true) ≡ a
and_true true = refl
and_true false = refl

pub and_false : (a : Bool) → (a && false) ≡ false
and_false true = refl
and_false false = refl

-- a loop that goes through all elements and keeps what it found so far
module _ {A : Type 0} (q : A → Bool) (d : A) (l : List A) (i : ℕ) (ok : Bool) where
  pub all_on : i < length l → (ok && all q (drop i l)) ≡ ((ok && q (get_or l i d)) && all q (drop (i + 1) l))
  all_on h = rw (drop-cons l i d h, add-one i) (and_assoc ok (q (get_or l i d)) (all q (drop (suc i) l)))

  pub all_end : length l ≤ i → (ok && all q (drop i l)) ≡ ok
  all_end h = rw (drop_of_length-le l {i = i} h) (and_true ok)
