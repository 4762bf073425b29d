-- Walking the elements of a value by places. Assumes nothing.
use Rattle.std.specs.Prelude.{Option, Some, None}
use mathlib.Core.Path.{◌≡◌, refl, sym, ap, subst, ◌∙◌}
use mathlib.Core.List.{List, [], ◌∷◌}
use mathlib.Core.Bool.{Bool, true, false, ◌&&◌}
use Prim.Native.Nat.{ℕ, suc, ◌<◌, ◌≤◌}
use native.Mathlib.Omega.{arith}
use lib.ListN.{length}
use Rattle.model.specs.Base.{ascii}
use Rattle.model.specs.Json.{Json, null, bool, num, str, arr, obj}
use Rattle.inner.specs.Positions.{well_at, tree_at, first_of, next_item, items_from, items_fine, left}
use Rattle.model.specs.Nav.{list_of, items_in, kind_of, is_array}
use Rattle.model.specs.Text.{is_word}
use Rattle.model.specs.Written.{array_in, elements_of, elements_in}
use Rattle.model.proofs.Tests.{split, and_l, and_r}
use Rattle.nav.proofs.Rest.{items_at, items_none, items_fine_lem, item_past}
use Rattle.nav.proofs.FirstByte.{items_in_lem}
use Rattle.elements.specs.Elements.{is_pair, Pairs, elements_from, elements_fine, next_element, Begins}

-- an array's first items
module _ (s : List ℕ) (at : ℕ) (w : well_at s at ≡ true) where
  pub no_first : first_of s 91 93 at ≡ None → Pairs s None (items_in (tree_at s at))
  unfolding Pairs is_pair
  no_first f = rw ((items_in_lem s at w).0 ∙ ap (items_from s) f ∙ items_none s)

  module _ {a : ℕ} (f : first_of s 91 93 at ≡ Some a) where
    some_first : items_in (tree_at s at) ≡ tree_at s a ∷ items_from s (next_item s a)
    some_first = (items_in_lem s at w).0 ∙ ap (items_from s) f ∙ items_at s a

    first_fine : (well_at s a ≡ true) × (items_fine s (next_item s a) ≡ true)
    first_fine = items_fine_lem s a (subst (λ x. items_fine s x ≡ true) f (items_in_lem s at w).1)

    pub no_second : next_item s a ≡ None → Pairs s None (items_in (tree_at s at))
    unfolding Pairs is_pair
    no_second g = rw (some_first ∙ ap (λ x. tree_at s a ∷ x) (ap (items_from s) g ∙ items_none s))

    module _ {b : ℕ} (g : next_item s a ≡ Some b) where
      some_second : items_in (tree_at s at) ≡ tree_at s a ∷ tree_at s b ∷ items_from s (next_item s b)
      some_second = some_first ∙ ap (λ x. tree_at s a ∷ x) (ap (items_from s) g ∙ items_at s b)

      pub no_third : next_item s b ≡ None → Pairs s (Some (a, b)) (items_in (tree_at s at))
      unfolding Pairs
      no_third h =
          (some_second ∙ ap (λ x. tree_at s a ∷ tree_at s b ∷ x) (ap (items_from s) h ∙ items_none s), (items_fine_lem s b (subst (λ x. items_fine s x ≡ true) g first_fine.1)).0)

      pub some_third : {d : ℕ} → next_item s b ≡ Some d → Pairs s None (items_in (tree_at s at))
      unfolding Pairs is_pair
      some_third {d} h = rw (some_second ∙ ap (λ x. tree_at s a ∷ tree_at s b ∷ x) (ap (items_from s) h ∙ items_at s d))

-- arrays by their items
array_items : (j : Json) (a b : Json) (l : List Json) → items_in j ≡ a ∷ b ∷ l → array_in j ≡ Some (a ∷ b ∷ l)
unfolding items_in
array_items null a b l e = cc
array_items (bool t) a b l e = cc
array_items (num t) a b l e = cc
array_items (str t) a b l e = cc
array_items (arr xs) a b l e = ap Some e
array_items (obj ms) a b l e = cc

is_array_lem : (j : Json) → is_array (kind_of j) ≡ true → array_in j ≡ Some (items_in j)
unfolding kind_of items_in
is_array_lem null h = cc
is_array_lem (bool t) h = cc
is_array_lem (num t) h = cc
is_array_lem (str t) h = cc
is_array_lem (arr xs) h = refl
is_array_lem (obj ms) h = cc

no_array : (j : Json) → is_array (kind_of j) ≡ false → array_in j ≡ None
unfolding kind_of
no_array null h = refl
no_array (bool t) h = refl
no_array (num t) h = refl
no_array (str t) h = refl
no_array (arr xs) h = cc
no_array (obj ms) h = refl

module _ (j a b : Json) (e : items_in j ≡ a ∷ b ∷ []) where
  two_items : elements_in j ≡ elements_of j (a ∷ b ∷ [])
  two_items = ap (λ o. elim o [ None ↦ j ∷ [] | Some l ↦ elements_of j l ]) (array_items j a b [] e)

  by_word : {t : Bool} → is_word (ascii "set") a ≡ t → elements_in j ≡ elim t [ true ↦ elim (array_in b) [ None ↦ j ∷ [] | Some l ↦ l ] | false ↦ j ∷ [] ]
  by_word h = two_items ∙ ap (λ (t : Bool). elim t [ true ↦ elim (array_in b) [ None ↦ j ∷ [] | Some l ↦ l ] | false ↦ j ∷ [] ]) h

  set_elements : is_word (ascii "set") a ≡ true → is_array (kind_of b) ≡ true → elements_in j ≡ items_in b
  set_elements h k = by_word h ∙ ap (λ o. elim o [ None ↦ j ∷ [] | Some l ↦ l ]) (is_array_lem b k)

  other_word : is_word (ascii "set") a ≡ false → elements_in j ≡ j ∷ []
  other_word h = by_word h

  other_kind : is_word (ascii "set") a ≡ true → is_array (kind_of b) ≡ false → elements_in j ≡ j ∷ []
  other_kind h k = by_word h ∙ ap (λ o. elim o [ None ↦ j ∷ [] | Some l ↦ l ]) (no_array b k)

few : (j : Json) (l : List Json) → is_pair l ≡ false → elements_of j l ≡ j ∷ []
unfolding is_pair
few j [] h = refl
few j (a ∷ []) h = refl
few j (a ∷ b ∷ []) h = cc
few j (a ∷ b ∷ c ∷ l) h = refl

no_pair : (j : Json) → is_pair (items_in j) ≡ false → elements_in j ≡ j ∷ []
unfolding items_in is_pair
no_pair null h = refl
no_pair (bool t) h = refl
no_pair (num t) h = refl
no_pair (str t) h = refl
no_pair (arr xs) h = few (arr xs) (list_of xs) h
no_pair (obj ms) h = refl

-- where the elements of a value begin
module _ (s : List ℕ) (at : ℕ) {p : Option (ℕ × ℕ)} (q : Pairs s p (items_in (tree_at s at))) where
  module _ {a b : ℕ} (e : p ≡ Some (a, b)) {w l : Bool} (x : w ≡ is_word (ascii "set") (tree_at s a)) (y : l ≡ is_array (kind_of (tree_at s b))) where
    two : (items_in (tree_at s at) ≡ tree_at s a ∷ tree_at s b ∷ []) × (well_at s b ≡ true)
    unfolding Pairs
    two = subst (λ z. Pairs s z (items_in (tree_at s at))) e q

    pub begins_set : (w && l) ≡ true → {g : Option ℕ} → g ≡ first_of s 91 93 b → Begins s true g (tree_at s at)
    unfolding elements_from elements_fine
    begins_set h {g} f =
        let i = items_in_lem s b two.1 in
        record {
          all = set_elements (tree_at s at) (tree_at s a) (tree_at s b) two.0 (sym x ∙ and_l w l h) (sym y ∙ and_r w l h) ∙ i.0 ∙ ap (items_from s) (sym f);
          fine = ap (items_fine s) f ∙ i.1;
        }

    pub begins_one : (w && l) ≡ false → well_at s at ≡ true → Begins s false (Some at) (tree_at s at)
    unfolding elements_from elements_fine
    begins_one h k = record {
      all = split w
          (λ t. other_kind (tree_at s at) (tree_at s a) (tree_at s b) two.0 (sym x ∙ t) (sym y ∙ ap (λ z. z && l) (sym t) ∙ h))
          (λ t. other_word (tree_at s at) (tree_at s a) (tree_at s b) two.0 (sym x ∙ t));
      fine = k;
    }

  pub begins_other : p ≡ None → well_at s at ≡ true → Begins s false (Some at) (tree_at s at)
  unfolding Pairs elements_from elements_fine
  begins_other e k = record { all = no_pair (tree_at s at) (subst (λ z. Pairs s z (items_in (tree_at s at))) e q); fine = k }

-- the elements
module _ (s : List ℕ) where
  pub elements_at : (set : Bool) (p : ℕ) → elements_from s set (Some p) ≡ tree_at s p ∷ elements_from s set (next_element s set p)
  unfolding elements_from next_element
  elements_at true p = items_at s p
  elements_at false p = refl

  pub elements_none : (set : Bool) → elements_from s set None ≡ []
  unfolding elements_from
  elements_none true = items_none s
  elements_none false = refl

  pub elements_fine_lem : (set : Bool) (p : ℕ) → elements_fine s set (Some p) ≡ true → (well_at s p ≡ true) × (elements_fine s set (next_element s set p) ≡ true)
  unfolding elements_fine next_element
  elements_fine_lem true p h = items_fine_lem s p h
  elements_fine_lem false p h = (h, refl)

  pub element_past : (set : Bool) (p : ℕ) → left s (next_element s set p) < left s (Some p)
  unfolding next_element left
  element_past true p = item_past s p
  element_past false p = omega arith

  pub left_le : (f : Option ℕ) → left s f ≤ suc (length s)
  unfolding left
  left_le (Some p) = omega arith
  left_le None = omega arith

-- a turn of a walk that stands at the place g
module _ (s : List ℕ) (set : Bool) {g : Option ℕ} where
  pub walk_end : g ≡ None → elements_from s set g ≡ []
  walk_end h = ap (elements_from s set) h ∙ elements_none s set

  module _ {p : ℕ} (h : g ≡ Some p) where
    pub walk_rest : elements_from s set g ≡ tree_at s p ∷ elements_from s set (next_element s set p)
    walk_rest = ap (elements_from s set) h ∙ elements_at s set p

    pub walk_fine : elements_fine s set g ≡ true → (well_at s p ≡ true) × (elements_fine s set (next_element s set p) ≡ true)
    walk_fine f = elements_fine_lem s set p (subst (λ x. elements_fine s set x ≡ true) h f)

    pub walk_less : left s (next_element s set p) < left s g
    walk_less = subst (λ x. left s (next_element s set p) < left s x) (sym h) (element_past s set p)
