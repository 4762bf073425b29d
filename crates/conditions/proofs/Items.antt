-- The items of an array one after another: a name, a word and a value, or not. Assumes nothing.
use Rattle.std.specs.Prelude.{Option, Some, None}
use mathlib.Core.Path.{◌≡◌, refl, sym, ap, subst, ◌∙◌}
use mathlib.Core.List.{List, ◌∷◌}
use mathlib.Core.Bool.{true, false}
use Prim.Native.Nat.{ℕ}
use Rattle.model.specs.Json.{Json, null, bool, num, str, arr, obj}
use Rattle.inner.specs.Positions.{well_at, tree_at, first_of, next_item, items_from, items_fine}
use Rattle.model.specs.Nav.{items_in, kind_of, is_text}
use Rattle.inner.specs.Positions as Text
use Rattle.model.specs.Written.{string_in}
use Rattle.model.specs.Conditions.{triple_of, triple_items, triple_in}
use Rattle.model.proofs.Tests.{split}
use Rattle.nav.proofs.Rest.{items_at, items_none, items_fine_lem}
use Rattle.nav.proofs.FirstByte.{items_in_lem}
use Rattle.conditions.specs.Lookup.{Triples, by_names}

triple_items_lem : (j : Json) → triple_in j ≡ triple_items (items_in j)
unfolding items_in
triple_items_lem null = refl
triple_items_lem (bool b) = refl
triple_items_lem (num t) = refl
triple_items_lem (str t) = refl
triple_items_lem (arr xs) = refl
triple_items_lem (obj ms) = refl

pub text_some : (j : Json) → is_text (kind_of j) ≡ true → string_in j ≡ Some (Text.word_in j)
unfolding kind_of Text.word_in
text_some null h = cc
text_some (bool b) h = cc
text_some (num t) h = cc
text_some (str t) h = refl
text_some (arr xs) h = cc
text_some (obj ms) h = cc

pub text_none : (j : Json) → is_text (kind_of j) ≡ false → string_in j ≡ None
unfolding kind_of
text_none null h = refl
text_none (bool b) h = refl
text_none (num t) h = refl
text_none (str t) h = cc
text_none (arr xs) h = refl
text_none (obj ms) h = refl

no_word : (o : Option (List ℕ)) (v : Json) → triple_of o None v ≡ None
no_word None v = refl
no_word (Some n) v = refl

module _ (s : List ℕ) (at : ℕ) (w : well_at s at ≡ true) where
  by_items : {l : List Json} → items_in (tree_at s at) ≡ l → triple_in (tree_at s at) ≡ triple_items l
  by_items e = triple_items_lem (tree_at s at) ∙ ap triple_items e

  pub no_first : first_of s 91 93 at ≡ None → Triples s None (tree_at s at)
  unfolding Triples
  no_first f = by_items ((items_in_lem s at w).0 ∙ ap (items_from s) f ∙ items_none s)

  module _ {a : ℕ} (f : first_of s 91 93 at ≡ Some a) where
    some_first : items_in (tree_at s at) ≡ tree_at s a ∷ items_from s (next_item s a)
    some_first = (items_in_lem s at w).0 ∙ ap (items_from s) f ∙ items_at s a

    first_fine : items_fine s (next_item s a) ≡ true
    first_fine = (items_fine_lem s a (subst (λ x. items_fine s x ≡ true) f (items_in_lem s at w).1)).1

    pub no_second : next_item s a ≡ None → Triples s None (tree_at s at)
    unfolding Triples
    no_second g = by_items (some_first ∙ ap (λ x. tree_at s a ∷ x) (ap (items_from s) g ∙ items_none s))

    module _ {b : ℕ} (g : next_item s a ≡ Some b) where
      some_second : items_in (tree_at s at) ≡ tree_at s a ∷ tree_at s b ∷ items_from s (next_item s b)
      some_second = some_first ∙ ap (λ x. tree_at s a ∷ x) (ap (items_from s) g ∙ items_at s b)

      second_fine : items_fine s (next_item s b) ≡ true
      second_fine = (items_fine_lem s b (subst (λ x. items_fine s x ≡ true) g first_fine)).1

      pub no_third : next_item s b ≡ None → Triples s None (tree_at s at)
      unfolding Triples
      no_third h = by_items (some_second ∙ ap (λ x. tree_at s a ∷ tree_at s b ∷ x) (ap (items_from s) h ∙ items_none s))

      module _ {c : ℕ} (h : next_item s b ≡ Some c) where
        some_third : items_in (tree_at s at) ≡ tree_at s a ∷ tree_at s b ∷ tree_at s c ∷ items_from s (next_item s c)
        some_third = some_second ∙ ap (λ x. tree_at s a ∷ tree_at s b ∷ x) (ap (items_from s) h ∙ items_at s c)

        pub some_fourth : {d : ℕ} → next_item s c ≡ Some d → Triples s None (tree_at s at)
        unfolding Triples
        some_fourth {d} k = by_items (some_third ∙ ap (λ x. tree_at s a ∷ tree_at s b ∷ tree_at s c ∷ x) (ap (items_from s) k ∙ items_at s d))

        three : next_item s c ≡ None → triple_in (tree_at s at) ≡ triple_of (string_in (tree_at s a)) (string_in (tree_at s b)) (tree_at s c)
        three k = by_items (some_third ∙ ap (λ x. tree_at s a ∷ tree_at s b ∷ tree_at s c ∷ x) (ap (items_from s) k ∙ items_none s))

        pub no_fourth : next_item s c ≡ None → {r : Option (ℕ × ℕ × ℕ)} → r ≡ by_names (is_text (kind_of (tree_at s a))) (is_text (kind_of (tree_at s b))) a b c → Triples s r (tree_at s at)
        unfolding Triples by_names
        no_fourth k {r} e =
            split (is_text (kind_of (tree_at s a)))
            (λ x. split (is_text (kind_of (tree_at s b)))
            (λ y.
            let p = text_some (tree_at s a) x in
            let q = text_some (tree_at s b) y in
            let z : r ≡ Some (a, b, c) = e ∙ rw (by_names, x, y) in
            subst (λ r. Triples s r (tree_at s at)) (sym z)
            (record {
              all = three k ∙ ap (λ o. triple_of o (string_in (tree_at s b)) (tree_at s c)) p ∙ ap (λ o. triple_of (Some (Text.word_in (tree_at s a))) o (tree_at s c)) q;
              name = p;
              word = q;
              well = (items_fine_lem s c (subst (λ x. items_fine s x ≡ true) h second_fine)).0;
            }))
            (λ y.
            let z : r ≡ None = e ∙ rw (by_names, x, y) in
            subst (λ r. Triples s r (tree_at s at)) (sym z)
            (three k ∙ ap (λ o. triple_of (string_in (tree_at s a)) o (tree_at s c)) (text_none (tree_at s b) y) ∙ no_word (string_in (tree_at s a)) (tree_at s c))))
            (λ x.
            let z : r ≡ None = e ∙ rw (by_names, x) in
            subst (λ r. Triples s r (tree_at s at)) (sym z)
            (three k ∙ ap (λ o. triple_of o (string_in (tree_at s b)) (tree_at s c)) (text_none (tree_at s a) x)))
