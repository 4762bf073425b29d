-- The canonical form, test by test. Assumes nothing.
use mathlib.Core.Path.{◌≡◌, refl, sym, ap, ◌∙◌}
use mathlib.Core.Bool.{Bool, true, false, ◌&&◌}
use mathlib.Core.Logic.{◌⊎◌, inl, inr}
use mathlib.Core.List.{List, [], ◌∷◌}
use Prim.Native.Nat.{ℕ, zero, suc, ◌≤◌}
use borrow.Author.Tests.{le-leb, eq-eqb}
use lib.Dec.{eqb}
use lib.ListN.{length, take, drop}
use Rattle.std.specs.Prelude.{if◌then◌else◌}
use Rattle.model.specs.Base.{all}
use Rattle.model.specs.Schema.{Base, Column, scalar}
use Rattle.model.specs.Value.{zeros, well_atom, byte_atom, ascending, canonical_for}
use Rattle.atom.proofs.Cells.{and_false, and_assoc}

-- tests joined and taken apart
module _ (p q : List ℕ → Bool) where
  all_both : (l : List (List ℕ)) → all (λ a. p a && q a) l ≡ (all p l && all q l)
  all_both [] = refl
  all_both (a ∷ l) = rw (all_both l) (swap (p a) (q a) (all p l) (all q l))
    where
      swap : (w x y z : Bool) → ((w && x) && (y && z)) ≡ ((w && y) && (x && z))
      swap false x y z = refl
      swap true false y z = sym (and_false y)
      swap true true y z = refl

  all_cut : (n : ℕ) (l : List (List ℕ)) → all p l ≡ (all p (take n l) && all p (drop n l))
  all_cut zero [] = refl
  all_cut zero (a ∷ l) = refl
  all_cut (suc n) [] = refl
  all_cut (suc n) (a ∷ l) = ap (λ b. p a && b) (all_cut n l) ∙ and_assoc (p a) (all p (take n l)) (all p (drop n l))

-- six tests, two of which are of two parts
mixed : (x y w u z : Bool) → ((x && y) && (w && (u && (z && true)))) ≡ (((w && x) && u) && (z && y))
mixed false y false u z = refl
mixed false y true u z = refl
mixed true false false u z = refl
mixed true false true false z = refl
mixed true false true true z = sym (and_false z)
mixed true true false u z = refl
mixed true true true false z = refl
mixed true true true true z = refl

-- the tests that the code makes are the canonical form's
pub judged : (c : Column) (k : Base) (n : ℕ) (l : List (List ℕ)) (one : Bool) → c.base ≡ k → scalar c ≡ one → length l ≡ 4 → n ≤ 4 → (one ≡ true × n ≡ 1) ⊎ (one ≡ false)
    → canonical_for c (record { count = n; atoms = l }) ≡ ((all (λ a. well_atom k a && byte_atom a) (take n l) && ascending k (take n l)) && all (λ a. zeros a && byte_atom a) (drop n l))
judged c k n l one b s m few o =
    let x = all byte_atom (take n l) in
    let y = all byte_atom (drop n l) in
    rw (eq-eqb (length l) 4 m, le-leb n 4 few, scalar_test o, b, all_cut byte_atom zeros n l, all_both (well_atom k) byte_atom (take n l), all_both zeros byte_atom (drop n l))
    (mixed x y (all (well_atom k) (take n l)) (ascending k (take n l)) (all zeros (drop n l)))
  where
    scalar_test : (one ≡ true × n ≡ 1) ⊎ (one ≡ false) → (if scalar c then eqb n 1 else true) ≡ true
    scalar_test (inl h) = rw (s, h.0, h.1)
    scalar_test (inr h) = rw (s, h)
