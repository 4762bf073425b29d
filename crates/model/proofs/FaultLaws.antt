-- What is fine is fine in all its parts: of two faults, of a list of them, of checks in order. Assumes nothing.
use mathlib.Core.Path.{◌≡◌, refl, sym}
use mathlib.Core.Bool.{Bool, true, false}
use mathlib.Core.List.{List, [], ◌∷◌}
use Prim.Native.Nat.{◌≤◌}
use native.Mathlib.Omega.{arith}
use borrow.Author.Tests.{le-leb, lt-leb, leb-true, leb-false}
use lib.Dec.{leb}
use Rattle.model.specs.Faults.{is_fine, rank, earlier, worst, check}
use Rattle.model.specs.declared.Fault.{Fault}
use Rattle.model.specs.declared.Fault.TheVariants.{Fine, Syntax, Resources, Duplicate, Constraint, Domain, Range, Aborted, Integrity}
use Rattle.model.proofs.Tests.{split, clash}

-- no fault is as late as none
rank_most : (f : Fault) → rank f ≤ 8
rank_most Fine = omega arith
rank_most Syntax = omega arith
rank_most Resources = omega arith
rank_most Duplicate = omega arith
rank_most Constraint = omega arith
rank_most Domain = omega arith
rank_most Range = omega arith
rank_most Aborted = omega arith
rank_most Integrity = omega arith

rank_fine : (f : Fault) → 8 ≤ rank f → is_fine f ≡ true
rank_fine Fine h = refl
rank_fine Syntax h = absurd (omega arith)
rank_fine Resources h = absurd (omega arith)
rank_fine Duplicate h = absurd (omega arith)
rank_fine Constraint h = absurd (omega arith)
rank_fine Domain h = absurd (omega arith)
rank_fine Range h = absurd (omega arith)
rank_fine Aborted h = absurd (omega arith)
rank_fine Integrity h = absurd (omega arith)

-- the fault that is fine is one
pub fine_is : (f : Fault) → is_fine f ≡ true → f ≡ Fine
fine_is Fine h = refl
fine_is Syntax h = cc
fine_is Resources h = cc
fine_is Duplicate h = cc
fine_is Constraint h = cc
fine_is Domain h = cc
fine_is Range h = cc
fine_is Aborted h = cc
fine_is Integrity h = cc

fine_rank : (f : Fault) → is_fine f ≡ true → 8 ≤ rank f
fine_rank f h = rw (fine_is f h) (omega arith)

pub earlier_fine : (f g : Fault) → is_fine (earlier f g) ≡ true → (is_fine f ≡ true) × (is_fine g ≡ true)
earlier_fine f g h = split (leb (rank f) (rank g))
    (λ e. let p : is_fine f ≡ true = rw e at h in (p, rank_fine g (omega (arith, fine_rank f p, leb-true (rank f) (rank g) e))))
    (λ e. let p : is_fine g ≡ true = rw e at h in absurd (omega (arith, fine_rank g p, rank_most f, leb-false (rank f) (rank g) e)))

-- faults that are none
abbrev pub Fines : List Fault → Type 0
Fines [] = Unit
Fines (f ∷ l) = (is_fine f ≡ true) × Fines l

pub worst_fine : (l : List Fault) → is_fine (worst l) ≡ true → Fines l
worst_fine [] h = tt
worst_fine (f ∷ l) h = let p = earlier_fine f (worst l) h in (p.0, worst_fine l p.1)

-- a fault, and where it is none another
pub then_fine : (f g : Fault) → is_fine (elim (is_fine f) [ true ↦ g | false ↦ f ]) ≡ true → (is_fine f ≡ true) × (is_fine g ≡ true)
then_fine f g h = go (is_fine f) refl h
  where
    go : (b : Bool) → is_fine f ≡ b → is_fine (elim b [ true ↦ g | false ↦ f ]) ≡ true → (is_fine f ≡ true) × (is_fine g ≡ true)
    go true e k = (e, k)
    go false e k = absurd (clash (is_fine f) k e)

pub check_fine : (b : Bool) (f g : Fault) → is_fine f ≡ false → is_fine (check b f g) ≡ true → (b ≡ true) × (is_fine g ≡ true)
check_fine true f g n h = (refl, h)
check_fine false f g n h = absurd (clash (is_fine f) h n)

-- a check that is followed by none
pub check_true : (b : Bool) (f : Fault) → is_fine f ≡ false → is_fine (check b f Fine) ≡ true → b ≡ true
check_true b f n h = (check_fine b f Fine n h).0

-- none comes after every fault, and which of three is the earliest does not depend on how they are grouped
pub earlier_first : (f : Fault) → earlier Fine f ≡ f
earlier_first f = split (leb 8 (rank f)) (λ e. rw e (sym (fine_is f (rank_fine f (leb-true 8 (rank f) e))))) (λ e. rw e)

pub earlier_last : (f : Fault) → earlier f Fine ≡ f
earlier_last f = rw (le-leb (rank f) 8 (rank_most f))

pub earlier_assoc : (f g h : Fault) → earlier f (earlier g h) ≡ earlier (earlier f g) h
earlier_assoc f g h =
    split (leb (rank f) (rank g))
    (λ a. split (leb (rank g) (rank h))
    (λ b. let c : leb (rank f) (rank h) ≡ true = le-leb (rank f) (rank h) (omega (arith, leb-true (rank f) (rank g) a, leb-true (rank g) (rank h) b)) in rw (a, b) (rw (a, c) refl))
    (λ b. rw (a, b)))
    (λ a. split (leb (rank g) (rank h))
    (λ b. rw (a, b) (rw a refl))
    (λ b. let c : leb (rank f) (rank h) ≡ false = lt-leb (rank f) (rank h) (omega (arith, leb-false (rank f) (rank g) a, leb-false (rank g) (rank h) b)) in rw (a, b) (rw c refl)))
