-- Tests over lists: every element of a part of a list, of lists put together, of those that pass. Assumes nothing.
use mathlib.Core.Path.{◌≡◌, refl}
use mathlib.Core.Bool.{Bool, true}
use mathlib.Core.List.{List, [], ◌∷◌, ◌++◌}
use Prim.Native.Nat.{ℕ, zero, suc, ◌≤◌, ◌<◌}
use native.Mathlib.Omega.{arith}
use lib.ListN.{length, get_or, take, drop, replicate}
use Rattle.model.specs.Base.{all, keep}
use Rattle.model.proofs.Tests.{split, and_l, and_r}

module _ {A : Type 0} (q : A → Bool) where
  pub all_head : (a : A) (l : List A) → all q (a ∷ l) ≡ true → q a ≡ true
  all_head a l h = and_l (q a) (all q l) h

  pub all_tail : (a : A) (l : List A) → all q (a ∷ l) ≡ true → all q l ≡ true
  all_tail a l h = and_r (q a) (all q l) h

  pub all_cons : (a : A) (l : List A) → q a ≡ true → all q l ≡ true → all q (a ∷ l) ≡ true
  all_cons a l h g = rw (h, g)

  pub all_take : (n : ℕ) (l : List A) → all q l ≡ true → all q (take n l) ≡ true
  all_take zero [] h = refl
  all_take zero (a ∷ l) h = refl
  all_take (suc n) [] h = refl
  all_take (suc n) (a ∷ l) h = all_cons a (take n l) (all_head a l h) (all_take n l (all_tail a l h))

  pub all_drop : (n : ℕ) (l : List A) → all q l ≡ true → all q (drop n l) ≡ true
  all_drop zero [] h = h
  all_drop zero (a ∷ l) h = h
  all_drop (suc n) [] h = refl
  all_drop (suc n) (a ∷ l) h = all_drop n l (all_tail a l h)

  pub all_append : (l m : List A) → all q l ≡ true → all q m ≡ true → all q (l ++ m) ≡ true
  all_append [] m h g = g
  all_append (a ∷ l) m h g = all_cons a (l ++ m) (all_head a l h) (all_append l m (all_tail a l h) g)

  pub all_same : (n : ℕ) (a : A) → q a ≡ true → all q (replicate n a) ≡ true
  all_same zero a h = refl
  all_same (suc n) a h = all_cons a (replicate n a) h (all_same n a h)

  pub all_keep : (p : A → Bool) (l : List A) → all q l ≡ true → all q (keep p l) ≡ true
  all_keep p [] h = refl
  all_keep p (a ∷ l) h = split (p a) (λ e. rw e (all_cons a (keep p l) (all_head a l h) (all_keep p l (all_tail a l h)))) (λ e. rw e (all_keep p l (all_tail a l h)))

  -- what holds of every element holds of the one at a place within
  pub all_at : (l : List A) (i : ℕ) (d : A) → all q l ≡ true → i < length l → q (get_or l i d) ≡ true
  all_at [] i d h g = absurd (omega arith)
  all_at (a ∷ l) zero d h g = all_head a l h
  all_at (a ∷ l) (suc i) d h g = all_at l i d (all_tail a l h) (omega arith)

  pub length_keep : (l : List A) → length (keep q l) ≤ length l
  length_keep [] = omega arith
  length_keep (a ∷ l) = split (q a) (λ e. rw e (omega (arith, length_keep l))) (λ e. rw e (omega (arith, length_keep l)))

-- what implies a test, element by element
pub all_imply : {A : Type 0} (p q : A → Bool) → ((a : A) → p a ≡ true → q a ≡ true) → (l : List A) → all p l ≡ true → all q l ≡ true
all_imply p q f [] h = refl
all_imply p q f (a ∷ l) h = all_cons q a l (f a (all_head p a l h)) (all_imply p q f l (all_tail p a l h))
