-- What a value is, by its first byte. Assumes nothing.
use Rattle.std.specs.Prelude.{Ok, Err}
use Rattle.model.specs.Scan.{Read}
use mathlib.Core.Path.{◌≡◌, refl, sym, ap, subst, ◌∙◌}
use mathlib.Core.List.{List, [], ◌∷◌}
use mathlib.Core.Bool.{Bool, true, false}
use Prim.Native.Nat.{ℕ, suc, ◌≤◌}
use native.Mathlib.Omega.{arith}
use native.Mathlib.Nat.{sub_self}
use lib.ListN.{length}
use lib.Dec.{eqb}
use borrow.Author.Tests.{eqb-true, eqb-false}
use Rattle.model.specs.declared.Open.TheVariants.{Scalar}
use Rattle.model.specs.Scan.{byte, spaces_at, between, end_or}
use Rattle.model.specs.Strings.{string_at}
use Rattle.model.specs.Numbers.{number_at}
use Rattle.model.specs.Json.{Json, null, bool, num, str, arr, obj, Items, items, scalar_by, opens, dispatch, value_at}
use Rattle.model.specs.declared.Kind.TheVariants.{Null, Truth, Number, Text, Array, Object}
use Rattle.model.specs.Nav.{is_read, kind_of, list_of, items_in}
use Rattle.inner.specs.Positions.{well_at, tree_at, first_of, items_from, items_fine, kind_by, is_true}
use Rattle.scan.proofs.Past.{Past}
use Rattle.scan.proofs.Enough.{value_past}
use Rattle.nav.proofs.Rest.{array_step, object_step, array_is}

pub split : {P : Type 0} (b : Bool) → (b ≡ true → P) → (b ≡ false → P) → P
split true f g = f refl
split false f g = g refl

-- the first byte of a value, one way or another
pub data First (b : ℕ) : Type 0 where
  array : b ≡ 91 → First b
  object : b ≡ 123 → First b
  text : b ≡ 34 → First b
  nul : b ≡ 110 → First b
  yes : b ≡ 116 → First b
  no : b ≡ 102 → First b
  number : eqb b 91 ≡ false → eqb b 123 ≡ false → eqb b 34 ≡ false → eqb b 110 ≡ false → eqb b 116 ≡ false → eqb b 102 ≡ false → First b

pub first_of_lem : (b : ℕ) → First b
first_of_lem b =
    split (eqb b 91) (λ h. array (eqb-true b 91 h)) (λ a. split (eqb b 123) (λ h. object (eqb-true b 123 h)) (λ o.
    split (eqb b 34) (λ h. text (eqb-true b 34 h)) (λ t. split (eqb b 110) (λ h. nul (eqb-true b 110 h)) (λ n.
    split (eqb b 116) (λ h. yes (eqb-true b 116 h)) (λ y. split (eqb b 102) (λ h. no (eqb-true b 102 h)) (λ z. number a o t n y z))))))

module _ (s : List ℕ) where
  scalar_step : (l at : ℕ) → opens (byte s (spaces_at s at)) ≡ Scalar → value_at (suc l) s at ≡ scalar_by s (spaces_at s at) (byte s (spaces_at s at))
  unfolding value_at dispatch
  scalar_step l at h = rw (dispatch, h)

  not_opens : (b : ℕ) → eqb b 91 ≡ false → eqb b 123 ≡ false → opens b ≡ Scalar
  unfolding opens
  not_opens b a o = rw (opens, a, o)

  tree_array : (at : ℕ) → byte s (spaces_at s at) ≡ 91 → (xs : Items) × (tree_at s at ≡ arr xs)
  unfolding tree_at
  tree_array at h = (_, ap (λ x. x.tree) (array_step s 11 at h))

  pub kind_is : (at : ℕ) → kind_of (tree_at s at) ≡ kind_by (byte s (spaces_at s at))
  unfolding tree_at kind_of kind_by scalar_by opens
  kind_is at = go (first_of_lem (byte s (spaces_at s at)))
    where
      go : First (byte s (spaces_at s at)) → kind_of (value_at 12 s at).tree ≡ kind_by (byte s (spaces_at s at))
      go (array h) = rw (h, array_step s 11 at h)
      go (object h) = rw (h, object_step s 11 at h)
      go (text h) = let o : opens (byte s (spaces_at s at)) ≡ Scalar = ap opens h in rw (scalar_step 11 at o, h)
      go (nul h) = let o : opens (byte s (spaces_at s at)) ≡ Scalar = ap opens h in rw (scalar_step 11 at o, h)
      go (yes h) = let o : opens (byte s (spaces_at s at)) ≡ Scalar = ap opens h in rw (scalar_step 11 at o, h)
      go (no h) = let o : opens (byte s (spaces_at s at)) ≡ Scalar = ap opens h in rw (scalar_step 11 at o, h)
      go (number a o t n y z) = let q = not_opens (byte s (spaces_at s at)) a o in rw (scalar_step 11 at q, scalar_by, kind_by, a, o, t, n, y, z)

  -- by its kind: what the tree is
  pub array_first : (at : ℕ) → kind_of (tree_at s at) ≡ Array → byte s (spaces_at s at) ≡ 91
  unfolding kind_by
  array_first at k = go (first_of_lem (byte s (spaces_at s at))) (sym (kind_is at) ∙ k)
    where
      go : First (byte s (spaces_at s at)) → kind_by (byte s (spaces_at s at)) ≡ Array → byte s (spaces_at s at) ≡ 91
      go (array h) q = h
      go (object h) q = absurd (let m : Object ≡ Array = rw h at q in let z : ◌≡◌ {A = ℕ} 0 1 = cc in omega arith)
      go (text h) q = absurd (let m : Text ≡ Array = rw h at q in let z : ◌≡◌ {A = ℕ} 0 1 = cc in omega arith)
      go (nul h) q = absurd (let m : Null ≡ Array = rw h at q in let z : ◌≡◌ {A = ℕ} 0 1 = cc in omega arith)
      go (yes h) q = absurd (let m : Truth ≡ Array = rw h at q in let z : ◌≡◌ {A = ℕ} 0 1 = cc in omega arith)
      go (no h) q = absurd (let m : Truth ≡ Array = rw h at q in let z : ◌≡◌ {A = ℕ} 0 1 = cc in omega arith)
      go (number a o t n y f) q = absurd (let m : Number ≡ Array = rw (kind_by, a, o, t, n, y, f) at q in let z : ◌≡◌ {A = ℕ} 0 1 = cc in omega arith)

  pub text_is_lem : (at : ℕ) → kind_of (tree_at s at) ≡ Text → (byte s (spaces_at s at) ≡ 34) × (tree_at s at ≡ str (string_at s (spaces_at s at)).tree)
  unfolding kind_by tree_at scalar_by opens
  text_is_lem at k = go (first_of_lem (byte s (spaces_at s at))) (sym (kind_is at) ∙ k)
    where
      go : First (byte s (spaces_at s at)) → kind_by (byte s (spaces_at s at)) ≡ Text → (byte s (spaces_at s at) ≡ 34) × ((value_at 12 s at).tree ≡ str (string_at s (spaces_at s at)).tree)
      go (text h) q = (h, let o : opens (byte s (spaces_at s at)) ≡ Scalar = ap opens h in rw (scalar_step 11 at o, h))
      go (object h) q = absurd (let m : Object ≡ Text = rw h at q in let z : ◌≡◌ {A = ℕ} 0 1 = cc in omega arith)
      go (array h) q = absurd (let m : Array ≡ Text = rw h at q in let z : ◌≡◌ {A = ℕ} 0 1 = cc in omega arith)
      go (nul h) q = absurd (let m : Null ≡ Text = rw h at q in let z : ◌≡◌ {A = ℕ} 0 1 = cc in omega arith)
      go (yes h) q = absurd (let m : Truth ≡ Text = rw h at q in let z : ◌≡◌ {A = ℕ} 0 1 = cc in omega arith)
      go (no h) q = absurd (let m : Truth ≡ Text = rw h at q in let z : ◌≡◌ {A = ℕ} 0 1 = cc in omega arith)
      go (number a o t n y f) q = absurd (let m : Number ≡ Text = rw (kind_by, a, o, t, n, y, f) at q in let z : ◌≡◌ {A = ℕ} 0 1 = cc in omega arith)

  pub number_is : (at : ℕ) → kind_of (tree_at s at) ≡ Number → (e : ℕ) → (value_at 12 s at).read ≡ Ok e → tree_at s at ≡ num (between s (spaces_at s at) e)
  unfolding kind_by tree_at scalar_by
  number_is at k e r = go (first_of_lem (byte s (spaces_at s at))) (sym (kind_is at) ∙ k)
    where
      go : First (byte s (spaces_at s at)) → kind_by (byte s (spaces_at s at)) ≡ Number → (value_at 12 s at).tree ≡ num (between s (spaces_at s at) e)
      go (number a o t n y f) q =
          let w = scalar_step 11 at (not_opens (byte s (spaces_at s at)) a o) in
          let v : scalar_by s (spaces_at s at) (byte s (spaces_at s at)) ≡ record { read = number_at s (spaces_at s at); tree = num (between s (spaces_at s at) (end_or (spaces_at s at) (number_at s (spaces_at s at)))) } = rw (scalar_by, t, n, y, f) in
          let u : number_at s (spaces_at s at) ≡ Ok e = sym (ap (λ x. x.read) (w ∙ v)) ∙ r in
          ap (λ x. x.tree) (w ∙ v) ∙ rw u
      go (object h) q = absurd (let m : Object ≡ Number = rw h at q in let z : ◌≡◌ {A = ℕ} 0 1 = cc in omega arith)
      go (array h) q = absurd (let m : Array ≡ Number = rw h at q in let z : ◌≡◌ {A = ℕ} 0 1 = cc in omega arith)
      go (text h) q = absurd (let m : Text ≡ Number = rw h at q in let z : ◌≡◌ {A = ℕ} 0 1 = cc in omega arith)
      go (nul h) q = absurd (let m : Null ≡ Number = rw h at q in let z : ◌≡◌ {A = ℕ} 0 1 = cc in omega arith)
      go (yes h) q = absurd (let m : Truth ≡ Number = rw h at q in let z : ◌≡◌ {A = ℕ} 0 1 = cc in omega arith)
      go (no h) q = absurd (let m : Truth ≡ Number = rw h at q in let z : ◌≡◌ {A = ℕ} 0 1 = cc in omega arith)

  -- the items of a value that is read well are those from its first place on, whatever it is
  list_items : (xs : List Json) → list_of (items xs) ≡ xs
  unfolding list_of items
  list_items [] = refl
  list_items (x ∷ xs) = ap (λ l. x ∷ l) (list_items xs)

  no_items : (j : Json) → (kind_of j ≡ Array → ⊥) → items_in j ≡ []
  unfolding kind_of items_in
  no_items (arr xs) h = absurd (h refl)
  no_items null h = refl
  no_items (bool b) h = refl
  no_items (num t) h = refl
  no_items (str t) h = refl
  no_items (obj ms) h = refl

  pub items_in_lem : (at : ℕ) → well_at s at ≡ true → (items_in (tree_at s at) ≡ items_from s (first_of s 91 93 at)) × (items_fine s (first_of s 91 93 at) ≡ true)
  unfolding items_in first_of items_from items_fine
  items_in_lem at w =
      split (eqb (byte s (spaces_at s at)) 91)
      (λ h. let q = array_is s at w (eqb-true _ 91 h) in (rw q.0 (list_items _), q.1))
      (λ h. let n = no_items (tree_at s at) (λ k. eqb-false (byte s (spaces_at s at)) 91 h (array_first at k)) in (n ∙ rw (first_of, h), rw (first_of, h)))

  -- where a value ends
  pub end_le : (at e : ℕ) → (value_at 12 s at).read ≡ Ok e → e ≤ length s
  end_le at e h = (subst (Past s (suc at)) h (value_past s 12 at)).1

  -- a number that is none has no text
  pub number_not : (at : ℕ) → kind_of (tree_at s at) ≡ Number → is_read (value_at 12 s at).read ≡ false → tree_at s at ≡ num []
  unfolding kind_by tree_at scalar_by is_read
  number_not at k r = go (first_of_lem (byte s (spaces_at s at))) (sym (kind_is at) ∙ k)
    where
      none : (q : Read) → is_read q ≡ false → num (between s (spaces_at s at) (end_or (spaces_at s at) q)) ≡ num []
      none (Ok e) z = absurd (let y : ◌≡◌ {A = ℕ} 0 1 = cc in omega arith)
      none (Err e) z = rw sub_self

      go : First (byte s (spaces_at s at)) → kind_by (byte s (spaces_at s at)) ≡ Number → (value_at 12 s at).tree ≡ num []
      go (number a o t n y f) q =
          let w = scalar_step 11 at (not_opens (byte s (spaces_at s at)) a o) in
          let v : scalar_by s (spaces_at s at) (byte s (spaces_at s at)) ≡ record { read = number_at s (spaces_at s at); tree = num (between s (spaces_at s at) (end_or (spaces_at s at) (number_at s (spaces_at s at)))) } = rw (scalar_by, t, n, y, f) in
          let u : is_read (number_at s (spaces_at s at)) ≡ false = rw (w ∙ v) at r in
          ap (λ x. x.tree) (w ∙ v) ∙ none (number_at s (spaces_at s at)) u
      go (object h) q = absurd (let m : Object ≡ Number = rw h at q in let z : ◌≡◌ {A = ℕ} 0 1 = cc in omega arith)
      go (array h) q = absurd (let m : Array ≡ Number = rw h at q in let z : ◌≡◌ {A = ℕ} 0 1 = cc in omega arith)
      go (text h) q = absurd (let m : Text ≡ Number = rw h at q in let z : ◌≡◌ {A = ℕ} 0 1 = cc in omega arith)
      go (nul h) q = absurd (let m : Null ≡ Number = rw h at q in let z : ◌≡◌ {A = ℕ} 0 1 = cc in omega arith)
      go (yes h) q = absurd (let m : Truth ≡ Number = rw h at q in let z : ◌≡◌ {A = ℕ} 0 1 = cc in omega arith)
      go (no h) q = absurd (let m : Truth ≡ Number = rw h at q in let z : ◌≡◌ {A = ℕ} 0 1 = cc in omega arith)

  -- which values are true
  pub true_is : (at : ℕ) → is_true (tree_at s at) ≡ eqb (byte s (spaces_at s at)) 116
  unfolding tree_at is_true scalar_by opens
  true_is at = go (first_of_lem (byte s (spaces_at s at)))
    where
      go : First (byte s (spaces_at s at)) → is_true (value_at 12 s at).tree ≡ eqb (byte s (spaces_at s at)) 116
      go (array h) = rw (h, array_step s 11 at h)
      go (object h) = rw (h, object_step s 11 at h)
      go (text h) = let o : opens (byte s (spaces_at s at)) ≡ Scalar = ap opens h in rw (scalar_step 11 at o, h)
      go (nul h) = let o : opens (byte s (spaces_at s at)) ≡ Scalar = ap opens h in rw (scalar_step 11 at o, h)
      go (yes h) = let o : opens (byte s (spaces_at s at)) ≡ Scalar = ap opens h in rw (scalar_step 11 at o, h)
      go (no h) = let o : opens (byte s (spaces_at s at)) ≡ Scalar = ap opens h in rw (scalar_step 11 at o, h)
      go (number a o t n y z) = let q = not_opens (byte s (spaces_at s at)) a o in rw (scalar_step 11 at q, scalar_by, t, n, y, z)
