-- Atoms in order: each before the next is each before all after it; and the place of one more. Assumes nothing.
use mathlib.Core.Path.{◌≡◌, refl, sym, ap, ◌∙◌}
use mathlib.Core.Bool.{Bool, true, ◌&&◌}
use mathlib.Core.List.{List, [], ◌∷◌, ◌++◌}
use Prim.Native.Nat.{ℕ, suc, ◌+◌, ◌-◌, ◌≤◌, ◌<◌}
use native.Mathlib.Omega.{arith}
use lib.ListN.{length, take, drop, get_or, length-drop}
use lib.Seq.{drop-cons}
use Rattle.model.specs.Base.{all}
use Rattle.model.specs.Schema.{Base}
use Rattle.model.specs.Value.{less_atom, ascending, placed}
use Rattle.model.proofs.Tests.{split, and_l}
use Rattle.model.proofs.Lists.{all_imply}
use Rattle.model.proofs.AtomOrder.{less_trans}
use Rattle.value.specs.Places.{place_in}
use Rattle.atom.proofs.Cells.{and_assoc, and_true, and_false}

-- each is before the next
abbrev leads : Base → List ℕ → List (List ℕ) → Bool
leads k a [] = true
leads k a (b ∷ l) = less_atom k a b

abbrev pub chain : Base → List (List ℕ) → Bool
chain k [] = true
chain k (a ∷ l) = leads k a l && chain k l

module _ (k : Base) where
  link : (a b : List ℕ) (l : List (List ℕ)) → (less_atom k a b && ascending k (b ∷ l)) ≡ ascending k (a ∷ b ∷ l)
  link a b l = split (ascending k (b ∷ l))
      (λ e. split (less_atom k a b)
      (λ h.
      let up : all (λ (c : List ℕ). less_atom k b c) l ≡ true = and_l (all (λ (c : List ℕ). less_atom k b c) l) (ascending k l) e in
      let on : all (λ (c : List ℕ). less_atom k a c) l ≡ true = all_imply (less_atom k b) (less_atom k a) (λ c q. less_trans k a b c h q) l up in
      rw (e, h, on))
      (λ h. rw (e, h)))
      (λ e. rw e (and_false (less_atom k a b) ∙ sym (and_false (less_atom k a b && all (λ (c : List ℕ). less_atom k a c) l))))

  pub chain_ascending : (l : List (List ℕ)) → chain k l ≡ ascending k l
  chain_ascending [] = refl
  chain_ascending (a ∷ []) = refl
  chain_ascending (a ∷ b ∷ l) = ap (λ (t : Bool). less_atom k a b && t) (chain_ascending (b ∷ l)) ∙ link a b l

  chain_short : (l : List (List ℕ)) → length l ≤ 1 → chain k l ≡ true
  chain_short [] h = refl
  chain_short (a ∷ []) h = refl
  chain_short (a ∷ b ∷ l) h = absurd (omega arith)

  module _ (l : List (List ℕ)) (i : ℕ) (ok : Bool) where
    pub chain_on : 0 < i → i < length l → (ok && chain k (drop (i - 1) l)) ≡ ((ok && less_atom k (get_or l (i - 1) []) (get_or l i [])) && chain k (drop (i + 1 - 1) l))
    chain_on p h =
        let e : suc (i - 1) ≡ i = omega arith in
        let f : i + 1 - 1 ≡ i = omega arith in
        let c : drop (i - 1) l ≡ get_or l (i - 1) [] ∷ get_or l i [] ∷ drop (suc i) l =
        drop-cons l (i - 1) [] (omega arith) ∙ ap (λ (n : ℕ). get_or l (i - 1) [] ∷ drop n l) e ∙ ap (λ (r : List (List ℕ)). get_or l (i - 1) [] ∷ r) (drop-cons l i [] h) in
        ap (λ (r : List (List ℕ)). ok && chain k r) c
        ∙ and_assoc ok (less_atom k (get_or l (i - 1) []) (get_or l i [])) (chain k (get_or l i [] ∷ drop (suc i) l))
        ∙ ap (λ (r : List (List ℕ)). (ok && less_atom k (get_or l (i - 1) []) (get_or l i [])) && chain k r) (sym (ap (λ (n : ℕ). drop n l) f ∙ drop-cons l i [] h))

    pub chain_end : length l ≤ i → (ok && chain k (drop (i - 1) l)) ≡ ok
    chain_end h = ap (λ (b : Bool). ok && b) (chain_short (drop (i - 1) l) (omega (arith, length-drop (i - 1) l))) ∙ and_true ok

  -- ── one more in its place ──
  module _ (x : List ℕ) where
    pub place_le : (l : List (List ℕ)) → place_in k x l ≤ length l
    place_le [] = omega arith
    place_le (b ∷ l) = split (less_atom k x b) (λ e. rw e (omega arith)) (λ e. rw e (omega (arith, place_le l)))

    pub placed_at : (l : List (List ℕ)) → placed k x l ≡ take (place_in k x l) l ++ (x ∷ drop (place_in k x l) l)
    placed_at [] = refl
    placed_at (b ∷ l) = split (less_atom k x b) (λ e. rw e) (λ e. rw e (ap (λ (r : List (List ℕ)). b ∷ r) (placed_at l)))
