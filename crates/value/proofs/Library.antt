-- What the library says in the words of the model: `any` and `all`, and tests joined. Assumes nothing.
use Rattle.std.proofs.Common.{◌≡◌, Bool, true, false, ◌&&◌, ◌||◌, List, refl, sym}
use Rattle.std.specs.List.{list_any, list_all}
use Rattle.std.proofs.lemmas.List.Recursion.{same_from_clauses}
use Rattle.model.specs.Base.{any, all}

module _ {A : Type 0} (p : A → Bool) where
  pub any_is : (l : List A) → list_any p l ≡ any p l
  any_is = same_from_clauses (list_any p) (any p) (λ a b. p a || b) refl (λ _ _. refl) (λ _ _. refl)

  pub all_is : (l : List A) → list_all p l ≡ all p l
  all_is = same_from_clauses (list_all p) (all p) (λ a b. p a && b) refl (λ _ _. refl) (λ _ _. refl)

-- a test that passes only where another one does is both
pub joined : (b w y : Bool) → b ≡ w → (b ≡ true → y ≡ true) → b ≡ (w && y)
joined true w y e h = rw (sym e, h refl)
joined false w y e h = rw (sym e)
