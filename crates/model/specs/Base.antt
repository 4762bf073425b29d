-- Small things that every part of the model uses: a choice, and tests over lists. Assumes nothing: these are definitions.
use Rattle.std.specs.Prelude.{ℕ, zero, suc, Bool, true, false, not, ◌&&◌, ◌||◌, List, [], ◌∷◌, ◌++◌, cond, Option, Some, None}
use Prim.Native.String as Str
use Prim.Native.String.{String}
use Prim.Native.Char.{code}
use Rattle.model.specs.Octets.{eq_bytes}

module _ {ℓ} {A : Type ℓ} where
  -- some element, every element, the elements that pass, and how many pass
  abbrev pub any : (A → Bool) → List A → Bool
  any p [] = false
  any p (a ∷ l) = p a || any p l

  abbrev pub all : (A → Bool) → List A → Bool
  all p [] = true
  all p (a ∷ l) = p a && all p l

  abbrev pub keep : (A → Bool) → List A → List A
  keep p [] = []
  keep p (a ∷ l) = cond (p a) (a ∷ keep p l) (keep p l)

  abbrev pub count : (A → Bool) → List A → ℕ
  count p [] = 0
  count p (a ∷ l) = cond (p a) (suc (count p l)) (count p l)

-- every test of a list passes
abbrev pub every : List Bool → Bool
every [] = true
every (b ∷ bs) = b && every bs

abbrev pub eq_lists : List (List ℕ) → List (List ℕ) → Bool
eq_lists [] [] = true
eq_lists [] (y ∷ ys) = false
eq_lists (x ∷ xs) [] = false
eq_lists (x ∷ xs) (y ∷ ys) = eq_bytes x y && eq_lists xs ys

-- a byte string among others; all of them different
abbrev pub member : List ℕ → List (List ℕ) → Bool
member a l = any (eq_bytes a) l

abbrev pub distinct : List (List ℕ) → Bool
distinct [] = true
distinct (a ∷ l) = not (member a l) && distinct l

-- the place of a byte string among others, from 0
abbrev pub place_of : List ℕ → List (List ℕ) → Option ℕ
place_of w [] = None
place_of w (x ∷ xs) = elim (eq_bytes w x) [ true ↦ Some 0 | false ↦ elim (place_of w xs) [ None ↦ None | Some k ↦ Some (suc k) ] ]

abbrev pub is_some : {A : Type 0} → Option A → Bool
is_some None = false
is_some (Some a) = true

-- the element at a place
abbrev pub nth : {A : Type 0} → List A → ℕ → Option A
nth [] k = None
nth (a ∷ l) zero = Some a
nth (a ∷ l) (suc k) = nth l k

-- byte strings one after another
abbrev pub flat : List (List ℕ) → List ℕ
flat [] = []
flat (a ∷ rest) = a ++ flat rest

-- quoted text as its bytes (ASCII only)
abbrev pub ascii : String → List ℕ
ascii Str.[] = []
ascii (Str.◌∷◌ c s) = code c ∷ ascii s
