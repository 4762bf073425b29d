-- Members by places. Assumes nothing.
use Rattle.std.specs.Prelude.{Ok, Err}
use Rattle.model.specs.declared.ReadError.TheVariants.{Stop}
use Rattle.model.specs.Scan.{Read}
use Rattle.std.specs.Prelude.{Option, Some, None}
use mathlib.Core.Path.{◌≡◌, refl, sym, ap, subst, ◌∙◌}
use mathlib.Core.List.{List, [], ◌∷◌}
use mathlib.Core.Bool.{true}
use Prim.Native.Nat.{ℕ, ◌<◌}
use native.Mathlib.Omega.{arith}
use lib.Dec.{eqb, ltb}
use borrow.Author.Tests.{eqb-true, eqb-false, ltb-false, lt-ltb}
use Rattle.model.specs.Scan.{byte, and_then, within_at, spaces_at, end_or}
use Rattle.model.specs.Strings.{string_at}
use Rattle.model.specs.Json.{Json, null, bool, num, str, arr, obj, members, Named, key_at, member_at, value_at}
use Rattle.model.specs.declared.Kind.TheVariants.{Null, Truth, Number, Text, Array, Object}
use Rattle.model.specs.Nav.{is_read, kind_of}
use Rattle.inner.specs.Positions.{well_at, tree_at, kind_by, first_of, next_item, items_from, items_fine, next_member, members_from, members_fine, left}
use Rattle.nav.proofs.Rest.{items_at, items_none, items_fine_lem, item_past, object_is, members_at, members_none, members_fine_lem, member_is, member_well, member_on}
use Rattle.nav.proofs.FirstByte.{kind_is, split, text_is_lem, First, array, object, text, nul, yes, no, number, first_of_lem}
use Rattle.model.specs.Members.{named_of, members_in}

list_members : (xs : List Named) → named_of (members xs) ≡ xs
unfolding named_of members
list_members [] = refl
list_members (x ∷ xs) = ap (λ l. x ∷ l) (list_members xs)

no_members : (j : Json) → (kind_of j ≡ Object → ⊥) → members_in j ≡ []
unfolding kind_of members_in
no_members null h = refl
no_members (bool b) h = refl
no_members (num t) h = refl
no_members (str t) h = refl
no_members (arr xs) h = refl
no_members (obj ms) h = absurd (h refl)

module _ (s : List ℕ) where
  object_first : (at : ℕ) → kind_of (tree_at s at) ≡ Object → byte s (spaces_at s at) ≡ 123
  unfolding kind_by
  object_first at k = go (first_of_lem (byte s (spaces_at s at))) (sym (kind_is s at) ∙ k)
    where
      go : First (byte s (spaces_at s at)) → kind_by (byte s (spaces_at s at)) ≡ Object → byte s (spaces_at s at) ≡ 123
      go (object h) q = h
      go (array h) q = absurd (let m : Array ≡ Object = rw h at q in let z : ◌≡◌ {A = ℕ} 0 1 = cc in omega arith)
      go (text h) q = absurd (let m : Text ≡ Object = rw h at q in let z : ◌≡◌ {A = ℕ} 0 1 = cc in omega arith)
      go (nul h) q = absurd (let m : Null ≡ Object = rw h at q in let z : ◌≡◌ {A = ℕ} 0 1 = cc in omega arith)
      go (yes h) q = absurd (let m : Truth ≡ Object = rw h at q in let z : ◌≡◌ {A = ℕ} 0 1 = cc in omega arith)
      go (no h) q = absurd (let m : Truth ≡ Object = rw h at q in let z : ◌≡◌ {A = ℕ} 0 1 = cc in omega arith)
      go (number a o t n y f) q = absurd (let m : Number ≡ Object = rw (kind_by, a, o, t, n, y, f) at q in let z : ◌≡◌ {A = ℕ} 0 1 = cc in omega arith)

  pub members_in_lem : (at : ℕ) → well_at s at ≡ true → (members_in (tree_at s at) ≡ members_from s (first_of s 123 125 at)) × (members_fine s (first_of s 123 125 at) ≡ true)
  unfolding members_in first_of members_from members_fine
  members_in_lem at w =
      split (eqb (byte s (spaces_at s at)) 123)
      (λ h. let q = object_is s at w (eqb-true _ 123 h) in (rw q.0 (list_members _), q.1))
      (λ h. let n = no_members (tree_at s at) (λ k. eqb-false (byte s (spaces_at s at)) 123 h (object_first at k)) in (n ∙ rw (first_of, h), rw (first_of, h)))

  -- the name of a member is the string that stands at its place
  other_byte : (x i : ℕ) → (byte s i ≡ x → ⊥) → within_at s x x (Ok i) ≡ Err (Stop i)
  unfolding within_at
  other_byte x i h =
      split (ltb (byte s i) x) (λ a. rw (within_at, a))
      (λ a. let l : x < byte s i = omega (arith, ltb-false (byte s i) x a, h) in rw (within_at, a, lt-ltb x (byte s i) l))

  key_quote : (p e : ℕ) → (key_at s p).read ≡ Ok e → byte s (spaces_at s p) ≡ 34
  unfolding key_at string_at and_then
  key_quote p e h =
      split (eqb (byte s (spaces_at s p)) 34) (λ a. eqb-true _ 34 a)
      (λ a. let w = other_byte 34 (spaces_at s p) (eqb-false _ 34 a) in
      absurd (let k : Err (Stop (spaces_at s p)) ≡ Ok e = sym (rw (key_at, string_at, w)) ∙ h in let z : ◌≡◌ {A = ℕ} 0 1 = cc in omega arith))

  key_tree : (p e : ℕ) → (key_at s p).read ≡ Ok e → (key_at s p).tree ≡ (string_at s (spaces_at s p)).tree
  unfolding key_at and_then
  key_tree p e h = go (string_at s (spaces_at s p)).read refl
    where
      go : (r : Read) → (string_at s (spaces_at s p)).read ≡ r → (key_at s p).tree ≡ (string_at s (spaces_at s p)).tree
      go (Ok x) r = rw (key_at, r)
      go (Err x) r = absurd (let k : Err x ≡ Ok e = sym (rw (key_at, r)) ∙ h in let z : ◌≡◌ {A = ℕ} 0 1 = cc in omega arith)

  pub name_at : (p : ℕ) → is_read (member_at (value_at 12 s) s p).read ≡ true → tree_at s p ≡ str (member_at (value_at 12 s) s p).tree.name
  unfolding kind_by
  name_at p w =
      let m = member_well s p w in
      let q = key_quote p m.0 m.1 in
      let k : kind_of (tree_at s p) ≡ Text = kind_is s p ∙ ap kind_by q in
      (text_is_lem s p k).1 ∙ ap str (sym (key_tree p m.0 m.1) ∙ sym (ap (λ x. x.name) (member_is s p m.0 m.1)))

  -- a loop over items that stands at the place g: the item there, the rest, and that it gets on
  module _ {g : Option ℕ} where
    pub walk_end : g ≡ None → items_from s g ≡ []
    walk_end h = ap (items_from s) h ∙ items_none s

    module _ {p : ℕ} (h : g ≡ Some p) where
      pub walk_rest : items_from s g ≡ tree_at s p ∷ items_from s (next_item s p)
      walk_rest = ap (items_from s) h ∙ items_at s p

      pub walk_fine : items_fine s g ≡ true → (well_at s p ≡ true) × (items_fine s (next_item s p) ≡ true)
      walk_fine fine = items_fine_lem s p (subst (λ x. items_fine s x ≡ true) h fine)

      pub walk_less : left s (next_item s p) < left s g
      walk_less = subst (λ x. left s (next_item s p) < left s x) (sym h) (item_past s p)

  -- and over members: the name is the string at the place, the value begins where the key ends
  module _ {g : Option ℕ} where
    pub pass_end : g ≡ None → members_from s g ≡ []
    pass_end h = ap (members_from s) h ∙ members_none s

    module _ {p : ℕ} (h : g ≡ Some p) where
      pub pass_less : left s (next_member s p) < left s g
      pass_less = subst (λ x. left s (next_member s p) < left s x) (sym h) (member_on s p)

      pub pass_rest : members_from s g ≡ (member_at (value_at 12 s) s p).tree ∷ members_from s (next_member s p)
      pass_rest = ap (members_from s) h ∙ members_at s p

      module _ (fine : members_fine s g ≡ true) where
        here : (is_read (member_at (value_at 12 s) s p).read ≡ true) × (members_fine s (next_member s p) ≡ true)
        here = members_fine_lem s p (subst (λ x. members_fine s x ≡ true) h fine)

        pub pass_fine : members_fine s (next_member s p) ≡ true
        pass_fine = here.1

        -- the key ends
        pub pass_key : (key_at s p).read ≡ Ok (end_or p (key_at s p).read)
        pass_key = let m = member_well s p here.0 in rw m.1

        pub pass_name : tree_at s p ≡ str (member_at (value_at 12 s) s p).tree.name
        pass_name = name_at p here.0

        pub pass_value : ((member_at (value_at 12 s) s p).tree.value ≡ tree_at s (end_or p (key_at s p).read)) × (well_at s (end_or p (key_at s p).read) ≡ true)
        pass_value =
            let m = member_well s p here.0 in
            rw m.1 (ap (λ x. x.value) (member_is s p m.0 m.1), m.2)
