-- What tests say: of two parts, of a list of tests, and of equal bytes and values. Assumes nothing.
use mathlib.Core.Path.{◌≡◌, refl, sym}
use mathlib.Core.Bool.{Bool, true, false, ◌&&◌, ◌||◌}
use mathlib.Core.List.{List, [], ◌∷◌}
use Prim.Native.Nat.{ℕ}
use native.Mathlib.Omega.{arith}
use borrow.Author.Tests.{eq-eqb, ne_eqb, eqb-true, eqb-false}
use lib.Dec.{eqb}
use Rattle.model.specs.Octets.{eq_bytes}
use Rattle.model.specs.Base.{every, eq_lists}
use Rattle.model.specs.Value.{Value, same_value}

-- by a test's two outcomes, each with its equation
pub split : {P : Type 0} (b : Bool) → (b ≡ true → P) → (b ≡ false → P) → P
split true f g = f refl
split false f g = g refl

pub clash : (b : Bool) → b ≡ true → b ≡ false → ⊥
clash b p q = let z : ◌≡◌ {A = ℕ} 0 1 = cc in omega arith

pub and_l : (a b : Bool) → (a && b) ≡ true → a ≡ true
and_l true b h = refl
and_l false b h = h

pub and_r : (a b : Bool) → (a && b) ≡ true → b ≡ true
and_r true b h = h
and_r false b h = cc

pub or_l : (a b : Bool) → (a || b) ≡ false → a ≡ false
or_l true b h = h
or_l false b h = refl

pub or_r : (a b : Bool) → (a || b) ≡ false → b ≡ false
or_r true b h = cc
or_r false b h = h

pub or_true : (b : Bool) → (b || true) ≡ true
or_true true = refl
or_true false = refl

pub eqb_flip : (m n : ℕ) → eqb m n ≡ false → eqb n m ≡ false
eqb_flip m n h = ne_eqb n m (λ e. eqb-false m n h (sym e))

-- a list of tests, part by part
abbrev pub Trues : List Bool → Type 0
Trues [] = Unit
Trues (b ∷ bs) = (b ≡ true) × Trues bs

pub parts : (bs : List Bool) → every bs ≡ true → Trues bs
parts [] h = tt
parts (b ∷ bs) h = (and_l b (every bs) h, parts bs (and_r b (every bs) h))

pub whole : (bs : List Bool) → Trues bs → every bs ≡ true
whole [] h = refl
whole (b ∷ bs) h = rw (h.0, whole bs h.1)

-- bytes and values that pass the test are the same, and what is the same passes it
pub bytes_same : (x y : List ℕ) → eq_bytes x y ≡ true → x ≡ y
bytes_same [] [] h = refl
bytes_same [] (b ∷ y) h = cc
bytes_same (a ∷ x) [] h = cc
bytes_same (a ∷ x) (b ∷ y) h = cc (eqb-true a b (and_l (eqb a b) (eq_bytes x y) h), bytes_same x y (and_r (eqb a b) (eq_bytes x y) h))

pub lists_same : (x y : List (List ℕ)) → eq_lists x y ≡ true → x ≡ y
lists_same [] [] h = refl
lists_same [] (b ∷ y) h = cc
lists_same (a ∷ x) [] h = cc
lists_same (a ∷ x) (b ∷ y) h = cc (bytes_same a b (and_l (eq_bytes a b) (eq_lists x y) h), lists_same x y (and_r (eq_bytes a b) (eq_lists x y) h))

pub bytes_self : (x : List ℕ) → eq_bytes x x ≡ true
bytes_self [] = refl
bytes_self (a ∷ x) = rw (eq-eqb a a refl, bytes_self x)

pub lists_self : (x : List (List ℕ)) → eq_lists x x ≡ true
lists_self [] = refl
lists_self (a ∷ x) = rw (bytes_self a, lists_self x)

pub value_same : (v w : Value) → same_value v w ≡ true → v ≡ w
value_same v w h =
    let c : v.count ≡ w.count = eqb-true v.count w.count (and_l (eqb v.count w.count) (eq_lists v.atoms w.atoms) h) in
    let a : v.atoms ≡ w.atoms = lists_same v.atoms w.atoms (and_r (eqb v.count w.count) (eq_lists v.atoms w.atoms) h) in
    λ i. record { count = c i; atoms = a i }

pub value_self : (v : Value) → same_value v v ≡ true
value_self v = rw (eq-eqb v.count v.count refl, lists_self v.atoms)
