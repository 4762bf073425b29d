-- At most four atoms gathered, one after another. Assumes nothing.
use Rattle.std.specs.Prelude.{Option, Some, None}
use mathlib.Core.Path.{◌≡◌, refl, sym, ap, ◌∙◌}
use mathlib.Core.Bool.{Bool, true, false}
use mathlib.Core.List.{List, [], ◌∷◌, ◌++◌, map, append-nil, append_assoc}
use Prim.Native.Nat.{ℕ, suc, ◌+◌, ◌<◌, ◌≤◌}
use native.Mathlib.Omega.{arith}
use lib.ListN.{length, set as update, length-append}
use borrow.Author.Tests.{not-true, lt-ltb, le-ltb}
use Rattle.model.specs.Base.{any}
use Rattle.model.specs.Json.{Json}
use Rattle.inner.specs.Positions.{tree_at}
use Rattle.model.specs.Schema.{Base}
use Rattle.model.specs.Written.{Names, long_atom}
use Rattle.model.proofs.Tests.{or_l, or_r}
use Rattle.value.proofs.Fours.{padded, set_padded}
use Rattle.elements.specs.Elements.{elements_from, elements_fine, next_element}
use Rattle.elements.proofs.Walk.{walk_rest, walk_end, walk_fine}
use Rattle.element_atoms.specs.Atoms.{atom_as, atoms_of}
use Rattle.element_sets.specs.Tallies.{all_short, put_atom}

later : {A : Type 0} (q : A → Bool) (l : List A) (a : A) (m : List A) → any q (l ++ (a ∷ m)) ≡ false → q a ≡ false
later q [] a m h = or_l (q a) (any q m) h
later q (x ∷ l) a m h = later q l a m (or_r (q x) (any q (l ++ (a ∷ m))) h)

same_length : (names : Names) (k : Base) (js : List Json) → length (atoms_of names k js) ≡ length js
unfolding atoms_of
same_length names k [] = refl
same_length names k (j ∷ js) = ap suc (same_length names k js)

-- what was gathered before the place g
pub record Gathered (names : Names) (k : Base) (s : List ℕ) (set : Bool) (f g : Option ℕ) (atoms : List (List ℕ)) (n : ℕ) : Type 0 where
  pub done : List (List ℕ)
  pub held : atoms ≡ padded done
  pub count : n ≡ length done
  pub rest : done ++ atoms_of names k (elements_from s set g) ≡ atoms_of names k (elements_from s set f)
  pub fine : elements_fine s set g ≡ true

module _ (names : Names) (k : Base) (s : List ℕ) (set : Bool) where
  pub gathered_start : {f : Option ℕ} → elements_fine s set f ≡ true → Gathered names k s set f f (padded []) 0
  gathered_start h = record { done = []; held = refl; count = refl; rest = refl; fine = h }

  module _ {f g : Option ℕ} {atoms : List (List ℕ)} {n : ℕ} (p : Gathered names k s set f g atoms n) where
    gathered_end : g ≡ None → atoms ≡ padded (atoms_of names k (elements_from s set f))
    unfolding atoms_of
    gathered_end h = p.held ∙ ap padded (sym (append-nil p.done) ∙ sym (ap (λ l. p.done ++ map (atom_as names k) l) (walk_end s set h)) ∙ p.rest)

    module _ {i : ℕ} (h : g ≡ Some i) where
      turned : p.done ++ (atom_as names k (tree_at s i) ∷ atoms_of names k (elements_from s set (next_element s set i))) ≡ atoms_of names k (elements_from s set f)
      unfolding atoms_of
      turned = sym (ap (λ l. p.done ++ map (atom_as names k) l) (walk_rest s set h)) ∙ p.rest

      gathered_short : all_short names k (elements_from s set f) ≡ true → long_atom k (atom_as names k (tree_at s i)) ≡ false
      unfolding all_short
      gathered_short a =
          later (long_atom k) p.done (atom_as names k (tree_at s i)) (atoms_of names k (elements_from s set (next_element s set i)))
          (ap (any (long_atom k)) turned ∙ not-true (any (long_atom k) (atoms_of names k (elements_from s set f))) a)

      gathered_on : {x : List ℕ} {next : Option ℕ} → n < 4 → x ≡ atom_as names k (tree_at s i) → next ≡ next_element s set i → Gathered names k s set f next (update atoms n x) (n + 1)
      gathered_on {x} {next} l e m = record {
        done = p.done ++ (x ∷ []);
        held = set_padded p.done atoms n x p.held p.count (omega (arith, p.count));
        count = omega (arith, p.count, length-append p.done (x ∷ []));
        rest = append_assoc p.done (x ∷ []) (atoms_of names k (elements_from s set next)) ∙ ap (λ y. p.done ++ (y ∷ atoms_of names k (elements_from s set next))) e
            ∙ ap (λ y. p.done ++ (atom_as names k (tree_at s i) ∷ atoms_of names k (elements_from s set y))) m ∙ turned;
        fine = ap (elements_fine s set) m ∙ (walk_fine s set h p.fine).1;
      }

-- an atom put at its place, and past the four
module _ (i : ℕ) (a : List ℕ) (atoms : List (List ℕ)) where
  pub put_room : i < 4 → put_atom i a atoms ≡ update atoms i a
  unfolding put_atom
  put_room h = ap (λ (b : Bool). elim b [ true ↦ update atoms i a | false ↦ atoms ]) (lt-ltb i 4 h)

  pub put_past : 4 ≤ i → put_atom i a atoms ≡ atoms
  unfolding put_atom
  put_past h = ap (λ (b : Bool). elim b [ true ↦ update atoms i a | false ↦ atoms ]) (le-ltb i 4 h)

-- the same where all elements fit, while they are judged
abbrev pub Kept : Names → Base → List ℕ → Bool → Option ℕ → Option ℕ → List (List ℕ) → ℕ → Type 0
Kept names k s set f g atoms n = all_short names k (elements_from s set f) ≡ true → length (elements_from s set f) ≤ 4 → Gathered names k s set f g atoms n

module _ (names : Names) (k : Base) (s : List ℕ) (set : Bool) {f g : Option ℕ} {atoms : List (List ℕ)} {n : ℕ} where
  room : Gathered names k s set f g atoms n → {i : ℕ} → g ≡ Some i → length (elements_from s set f) ≤ 4 → n < 4
  room p {i} h few =
      let x = atom_as names k (tree_at s i) ∷ atoms_of names k (elements_from s set (next_element s set i)) in
      omega (arith, p.count, ap length (turned names k s set p h), length-append p.done x, same_length names k (elements_from s set f))

  pub kept_on : Kept names k s set f g atoms n → {i : ℕ} → g ≡ Some i → {x : List ℕ} {after : List (List ℕ)} {next : Option ℕ}
      → (long_atom k (atom_as names k (tree_at s i)) ≡ false → atom_as names k (tree_at s i) ≡ x) → after ≡ put_atom n x atoms → next ≡ next_element s set i
      → Kept names k s set f next after (n + 1)
  kept_on p {i} h {x} {after} {next} a e m short few =
      let q = p short few in
      let l = room q h few in
      let z : after ≡ update atoms n x = e ∙ put_room n x atoms l in
      rw z (gathered_on names k s set q h l (sym (a (gathered_short names k s set q h short))) m)

  pub kept_end : Kept names k s set f g atoms n → g ≡ None → all_short names k (elements_from s set f) ≡ true → length (elements_from s set f) ≤ 4 → atoms ≡ padded (atoms_of names k (elements_from s set f))
  kept_end p h short few = gathered_end names k s set (p short few) h
