-- What a slot's value is, where there is one and where there is none. Assumes nothing.
use mathlib.Core.Path.{◌≡◌, refl, sym, ap, ◌∙◌}
use mathlib.Core.List.{List, [], ◌∷◌}
use mathlib.Core.Bool.{Bool, true, false, not, ◌&&◌, ◌||◌}
use Prim.Native.Nat.{ℕ, suc, ◌<◌}
use borrow.Author.Tests.{eqb-true, ne_eqb}
use lib.Dec.{eqb}
use lib.ListN.{length, get_or}
use Rattle.model.specs.declared.Kind.TheVariants.{Null}
use Rattle.model.specs.declared.Whole.TheVariants.{Other}
use Rattle.model.specs.Json.{Json, null, bool, num, str, arr, obj, Named}
use Rattle.inner.specs.Positions.{tree_at, is_true}
use Rattle.model.specs.Nav.{kind_of, is_truth}
use Rattle.model.specs.Whole.{whole_of}
use Rattle.model.specs.Text.{is_word}
use Rattle.model.specs.SchemaText.{must, may, truth_or}
use Rattle.model.proofs.Tests.{split, clash}
use Rattle.members.specs.Fields.{choice_from, choice, slot_tree, Slots}
use Rattle.members.proofs.Kept.{slot_none, slot_some}

choice_null : (ws : List (List ℕ)) (k : ℕ) → choice_from k null ws ≡ 9
unfolding choice_from is_word
choice_null [] k = refl
choice_null (w ∷ ws) k = choice_null ws (suc k)

-- what a function is at the value of a slot
module _ (s : List ℕ) {p : ℕ} where
  at_none : p ≡ 0 → slot_tree s p ≡ null
  at_none h = rw h (slot_none s)

  pub at_some : (p ≡ 0 → ⊥) → slot_tree s p ≡ tree_at s p
  at_some h = slot_some s p (ne_eqb p 0 h)

  pub choice_none : (ws : List (List ℕ)) → p ≡ 0 → 9 ≡ choice ws (slot_tree s p)
  unfolding choice
  choice_none ws h = sym (ap (choice ws) (at_none h) ∙ choice_null ws 0)

  pub kind_none : p ≡ 0 → Null ≡ kind_of (slot_tree s p)
  unfolding kind_of
  kind_none h = sym (ap kind_of (at_none h))

  pub whole_none : p ≡ 0 → Other ≡ whole_of (slot_tree s p)
  unfolding whole_of
  whole_none h = sym (ap whole_of (at_none h))

-- a value that is true or false, and one that is neither
truth_is : (d : Bool) (j : Json) → is_truth (kind_of j) ≡ true → is_true j ≡ truth_or d j
unfolding kind_of is_true truth_or
truth_is d null h = absurd (clash false h refl)
truth_is d (bool b) h = refl
truth_is d (num t) h = absurd (clash false h refl)
truth_is d (str t) h = absurd (clash false h refl)
truth_is d (arr xs) h = absurd (clash false h refl)
truth_is d (obj ms) h = absurd (clash false h refl)

truth_not : (d : Bool) (j : Json) → is_truth (kind_of j) ≡ false → d ≡ truth_or d j
unfolding kind_of truth_or
truth_not d null h = refl
truth_not d (bool b) h = absurd (clash true refl h)
truth_not d (num t) h = refl
truth_not d (str t) h = refl
truth_not d (arr xs) h = refl
truth_not d (obj ms) h = refl

no_truth : is_truth (kind_of null) ≡ false
unfolding kind_of
no_truth = refl

module _ (s : List ℕ) (p : ℕ) (d : Bool) where
  pub slot_truth : is_truth (kind_of (slot_tree s p)) ≡ true → is_true (tree_at s p) ≡ truth_or d (slot_tree s p)
  slot_truth h =
      split
      (eqb p 0)
      (λ e. absurd (none (ap (λ (j : Json). is_truth (kind_of j)) (at_none s (eqb-true p 0 e))) h))
      (λ e. let q = slot_some s p e in ap is_true (sym q) ∙ truth_is d (slot_tree s p) h)
    where
      none : is_truth (kind_of (slot_tree s p)) ≡ is_truth (kind_of null) → is_truth (kind_of (slot_tree s p)) ≡ true → ⊥
      none q t = clash _ (sym q ∙ t) no_truth

  pub slot_default : is_truth (kind_of (slot_tree s p)) ≡ false → d ≡ truth_or d (slot_tree s p)
  slot_default h = truth_not d (slot_tree s p) h

-- tests of members, of the slots that say where they are
module _ {s : List ℕ} {ws : List (List ℕ)} {ms : List Named} {slots : List ℕ} (k : Slots s ws ms slots) (i : ℕ) (h : i < length ws) (p : Json → Bool) where
  pub must_slot : must (get_or ws i []) p ms ≡ (not (eqb (get_or slots i 0) 0) && p (slot_tree s (get_or slots i 0)))
  must_slot = rw (k.here i h, k.value i h)

  pub may_slot : may (get_or ws i []) p ms ≡ (eqb (get_or slots i 0) 0 || p (slot_tree s (get_or slots i 0)))
  may_slot = rw (k.here i h, k.value i h) (split (eqb (get_or slots i 0) 0) (λ e. rw e) (λ e. rw e))

  -- of a test that nothing passes
  pub must_null : p null ≡ false → must (get_or ws i []) p ms ≡ p (slot_tree s (get_or slots i 0))
  must_null n =
      must_slot ∙ split (eqb (get_or slots i 0) 0) (λ e. rw e (sym (ap p (at_none s (eqb-true (get_or slots i 0) 0 e)) ∙ n))) (λ e. rw e)
