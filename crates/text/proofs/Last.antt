-- The last member of a name: a walk over the members that keeps the last place found. Assumes nothing.
use Rattle.std.specs.Prelude.{Option, Some, None}
use mathlib.Core.Path.{◌≡◌, refl, sym, ap, ◌∙◌}
use mathlib.Core.List.{List}
use mathlib.Core.Bool.{Bool, true, false, ◌||◌}
use Prim.Native.Nat.{ℕ}
use Rattle.model.specs.Octets.{eq_bytes}
use Rattle.model.specs.Scan.{end_or}
use Rattle.model.specs.Json.{Json, null, Named, key_at, member_at, value_at}
use Rattle.inner.specs.Positions.{well_at, tree_at, first_of, next_member, members_from, members_fine}
use Rattle.model.specs.Text.{is_word}
use Rattle.model.specs.Members.{members_in, has_member, named_or, value_or, member_value}
use Rattle.inner.specs.Positions.{Means}
use Rattle.nav.proofs.Walk.{members_in_lem, pass_end, pass_rest, pass_fine, pass_name, pass_value}

pub seen : Option ℕ → Bool
seen (Some p) = true
seen None = false

-- the tree at a place, and that it is well
pub tree_or : List ℕ → Option ℕ → Json
tree_or s (Some p) = tree_at s p
tree_or s None = null

pub WellOr : List ℕ → Option ℕ → Type 0
WellOr s (Some p) = well_at s p ≡ true
WellOr s None = Unit

or_true : (b : Bool) → (b || true) ≡ true
or_true true = refl
or_true false = refl

or_false : (b : Bool) → (b || false) ≡ b
or_false true = refl
or_false false = refl

named_yes : (w : List ℕ) (d : Json) (m : Named) → eq_bytes m.name w ≡ true → named_or w d m ≡ m.value
unfolding named_or
named_yes w d m h = rw (named_or, h)

named_no : (w : List ℕ) (d : Json) (m : Named) → eq_bytes m.name w ≡ false → named_or w d m ≡ d
unfolding named_or
named_no w d m h = rw (named_or, h)

-- what the walk knows at the place g, where `last` was found before it
pub record Sofar (s w : List ℕ) (all : List Named) (last g : Option ℕ) : Type 0 where
  pub is : has_member w all ≡ (seen last || has_member w (members_from s g))
  pub value : member_value w all ≡ value_or w (tree_or s last) (members_from s g)
  pub well : WellOr s last
  pub fine : members_fine s g ≡ true

module _ (s w : List ℕ) where
  pub sofar_start : (at : ℕ) → well_at s at ≡ true → {g : Option ℕ} → g ≡ first_of s 123 125 at → Sofar s w (members_in (tree_at s at)) None g
  unfolding seen tree_or WellOr member_value
  sofar_start at h {g} e =
      let q = members_in_lem s at h in
      let z : members_in (tree_at s at) ≡ members_from s g = q.0 ∙ ap (members_from s) (sym e) in
      record { is = ap (has_member w) z; value = ap (value_or w null) z; well = tt; fine = rw e q.1 }

  module _ {all : List Named} {last g : Option ℕ} (so : Sofar s w all last g) where
    pub sofar_end : g ≡ None → Means s last (has_member w all) (member_value w all)
    unfolding Means seen tree_or WellOr has_member value_or
    sofar_end e = go last (so.is ∙ ap (λ l. seen last || has_member w l) (pass_end s e) ∙ or_false (seen last)) (so.value ∙ ap (value_or w (tree_or s last)) (pass_end s e)) so.well
      where
        go : (f : Option ℕ) → has_member w all ≡ seen f → member_value w all ≡ tree_or s f → WellOr s f → Means s f (has_member w all) (member_value w all)
        go (Some p) a b c = (a, b, c)
        go None a b c = a

    module _ {p : ℕ} (h : g ≡ Some p) where
      named : is_word w (tree_at s p) ≡ eq_bytes (member_at (value_at 12 s) s p).tree.name w
      unfolding is_word
      named = rw (pass_name s h so.fine)

      -- a member of the name, and one of another
      pub sofar_named : {v : ℕ} {l n : Option ℕ} → is_word w (tree_at s p) ≡ true → v ≡ end_or p (key_at s p).read → l ≡ Some v → n ≡ next_member s p → Sofar s w all l n
      unfolding seen tree_or WellOr has_member value_or
      sofar_named b ev el en =
          let q = sym named ∙ b in
          rw (el, en) (record {
            is = so.is ∙ ap (λ x. seen last || has_member w x) (pass_rest s h) ∙ rw (has_member, q) (or_true (seen last));
            value = so.value ∙ ap (value_or w (tree_or s last)) (pass_rest s h) ∙ ap (λ x. value_or w x (members_from s (next_member s p))) (named_yes w (tree_or s last) _ q ∙ (pass_value s h so.fine).0 ∙ ap (tree_at s) (sym ev));
            well = rw ev (pass_value s h so.fine).1;
            fine = pass_fine s h so.fine;
          })

      pub sofar_other : {l n : Option ℕ} → is_word w (tree_at s p) ≡ false → l ≡ last → n ≡ next_member s p → Sofar s w all l n
      unfolding seen tree_or WellOr has_member value_or
      sofar_other b el en =
          let q = sym named ∙ b in
          rw (el, en) (record {
            is = so.is ∙ ap (λ x. seen last || has_member w x) (pass_rest s h) ∙ rw (has_member, q);
            value = so.value ∙ ap (value_or w (tree_or s last)) (pass_rest s h) ∙ ap (λ x. value_or w x (members_from s (next_member s p))) (named_no w (tree_or s last) _ q);
            well = so.well;
            fine = pass_fine s h so.fine;
          })
