-- Two lists of atoms that are compared one atom after another. Assumes nothing.
use mathlib.Core.Path.{◌≡◌, refl, ap, ◌∙◌}
use mathlib.Core.Bool.{Bool, true, false, ◌&&◌}
use mathlib.Core.List.{List, [], ◌∷◌}
use Prim.Native.Nat.{ℕ, suc, ◌+◌, ◌≤◌, ◌<◌}
use native.Mathlib.Numerals.{add-one}
use lib.ListN.{length, drop, get_or, drop_of_length-le}
use lib.Seq.{drop-cons}
use Rattle.model.specs.Octets.{eq_bytes}
use Rattle.model.specs.Base.{eq_lists}

and_false : (a : Bool) → (a && false) ≡ false
and_false true = refl
and_false false = refl

module _ (l m : List (List ℕ)) (i : ℕ) where
  lists_step : i < length l → i < length m → eq_lists (drop i l) (drop i m) ≡ (eq_bytes (get_or l i []) (get_or m i []) && eq_lists (drop (i + 1) l) (drop (i + 1) m))
  lists_step h g = rw (drop-cons l i [] h, drop-cons m i [] g, add-one i)

  pub lists_on : i < length l → i < length m → eq_bytes (get_or l i []) (get_or m i []) ≡ true → eq_lists (drop i l) (drop i m) ≡ eq_lists (drop (i + 1) l) (drop (i + 1) m)
  lists_on h g e = lists_step h g ∙ rw e

  pub lists_off : i < length l → i < length m → eq_bytes (get_or l i []) (get_or m i []) ≡ false → eq_lists (drop i l) (drop i m) ≡ false
  lists_off h g e = lists_step h g ∙ rw e

  pub lists_end : length l ≤ i → length m ≤ i → eq_lists (drop i l) (drop i m) ≡ true
  lists_end h g = rw (drop_of_length-le l {i = i} h, drop_of_length-le m {i = i} g)

pub lists_length : (l m : List (List ℕ)) → (length l ≡ length m → ⊥) → eq_lists l m ≡ false
lists_length [] [] h = absurd (h refl)
lists_length [] (y ∷ m) h = refl
lists_length (x ∷ l) [] h = refl
lists_length (x ∷ l) (y ∷ m) h = ap (λ (b : Bool). eq_bytes x y && b) (lists_length l m (λ q. h (ap suc q))) ∙ and_false (eq_bytes x y)
