-- The first n elements of a list that pass a test, from the i-th on. Assumes nothing.
use mathlib.Core.Path.{◌≡◌, refl, ap}
use mathlib.Core.Bool.{Bool, true, false, ◌&&◌, ◌||◌}
use mathlib.Core.List.{List, [], ◌∷◌}
use Prim.Native.Nat.{ℕ, ◌+◌, ◌≤◌, ◌<◌}
use lib.ListN.{length, get_or, take, drop}
use Rattle.std.specs.List.{filter, list_any}
use Rattle.model.specs.Base.{any, keep}
use Rattle.model.proofs.Tests.{split}
use Rattle.references.proofs.Walks.{first_on, first_end}

module _ {A : Type 0} (q : A → Bool) (d : A) (l : List A) (n i : ℕ) (h : n ≤ length l) where
  pub keep_yes : i < n → q (get_or l i d) ≡ true → keep q (drop i (take n l)) ≡ get_or l i d ∷ keep q (drop (i + 1) (take n l))
  keep_yes g e = rw (first_on d l n i h g, e)

  pub keep_no : i < n → q (get_or l i d) ≡ false → keep q (drop i (take n l)) ≡ keep q (drop (i + 1) (take n l))
  keep_no g e = rw (first_on d l n i h g, e)

  pub keep_end : n ≤ i → keep q (drop i (take n l)) ≡ []
  keep_end g = rw (first_end d l n i h g)

-- ── what iterators say, in the model's words ──
module _ {A : Type 0} (q : A → Bool) where
  pub kept_list : (l : List A) → filter q l ≡ keep q l
  kept_list [] = refl
  kept_list (a ∷ l) = split (q a) (λ e. rw e (ap (λ (r : List A). a ∷ r) (kept_list l))) (λ e. rw e (kept_list l))

  pub any_both : (p : A → Bool) (l : List A) → list_any (λ (a : A). q a && p a) l ≡ any p (keep q l)
  any_both p [] = refl
  any_both p (a ∷ l) = split (q a) (λ e. rw e (ap (λ (b : Bool). p a || b) (any_both p l))) (λ e. rw e (any_both p l))
