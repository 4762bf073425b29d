-- An element of a list, and what tests over the list say of it. Assumes nothing.
use mathlib.Core.Path.{◌≡◌, refl}
use mathlib.Core.Bool.{Bool, true, false}
use mathlib.Core.List.{List, [], ◌∷◌, ◌++◌, map}
use mathlib.Core.Logic.{◌⊎◌, inl, inr}
use Rattle.model.specs.Base.{any, all}
use Rattle.model.proofs.Tests.{or_l, or_r}
use Rattle.model.proofs.Lists.{all_head, all_tail, all_cons}

module _ {A : Type 0} where
  abbrev pub In : A → List A → Type 0
  In a [] = ⊥
  In a (b ∷ l) = (a ≡ b) ⊎ In a l

module _ {A : Type 0} (q : A → Bool) where
  pub all_in : (l : List A) (a : A) → all q l ≡ true → In a l → q a ≡ true
  all_in [] a h i = absurd i
  all_in (b ∷ l) a h (inl e) = rw e (all_head q b l h)
  all_in (b ∷ l) a h (inr i) = all_in l a (all_tail q b l h) i

  pub all_of : (l : List A) → ((a : A) → In a l → q a ≡ true) → all q l ≡ true
  all_of [] f = refl
  all_of (b ∷ l) f = all_cons q b l (f b (inl refl)) (all_of l (λ a i. f a (inr i)))

  pub none_in : (l : List A) (a : A) → any q l ≡ false → In a l → q a ≡ false
  none_in [] a h i = absurd i
  none_in (b ∷ l) a h (inl e) = rw e (or_l (q b) (any q l) h)
  none_in (b ∷ l) a h (inr i) = none_in l a (or_r (q b) (any q l) h) i

  pub none_of : (l : List A) → ((a : A) → In a l → q a ≡ false) → any q l ≡ false
  none_of [] f = refl
  none_of (b ∷ l) f = rw (f b (inl refl), none_of l (λ a i. f a (inr i)))

  -- both of two lists put together
  pub all_left : (l m : List A) → all q (l ++ m) ≡ true → all q l ≡ true
  all_left [] m h = refl
  all_left (a ∷ l) m h = all_cons q a l (all_head q a (l ++ m) h) (all_left l m (all_tail q a (l ++ m) h))

  pub all_right : (l m : List A) → all q (l ++ m) ≡ true → all q m ≡ true
  all_right [] m h = h
  all_right (a ∷ l) m h = all_right l m (all_tail q a (l ++ m) h)

-- a test of every element that is another test of what it is made of
module _ {A B : Type 0} (f : A → B) (p : B → Bool) (q : A → Bool) (h : (a : A) → p (f a) ≡ q a) where
  pub all_map : (l : List A) → all p (map f l) ≡ all q l
  all_map [] = refl
  all_map (a ∷ l) = rw (h a, all_map l)

  pub any_map : (l : List A) → any p (map f l) ≡ any q l
  any_map [] = refl
  any_map (a ∷ l) = rw (h a, any_map l)

pub all_alike : {A : Type 0} (p q : A → Bool) → ((a : A) → p a ≡ q a) → (l : List A) → all p l ≡ all q l
all_alike p q h [] = refl
all_alike p q h (a ∷ l) = rw (h a, all_alike p q h l)
