-- A canonical value is its elements, which are well-formed atoms in order; and the initial value meets its type. Assumes nothing.
use mathlib.Core.Path.{◌≡◌, refl, sym, ◌∙◌, ap}
use mathlib.Core.Bool.{Bool, true, false, ◌&&◌}
use mathlib.Core.List.{List, [], ◌∷◌, ◌++◌}
use mathlib.Core.Logic.{◌⊎◌, inl, inr}
use Prim.Native.Nat.{ℕ, ◌-◌, ◌≤◌}
use native.Mathlib.Omega.{arith}
use borrow.Author.Tests.{eq-eqb, le-leb, eqb-true, eqb-false, leb-true}
use lib.Dec.{eqb, leb}
use lib.IntN.{pos}
use lib.ListN.{length, drop, replicate, length-append, length-replicate, length-take, length-drop, take-append-drop}
use lib.Seq.{take-append_seam, drop-append_seam}
use Rattle.model.specs.Base.{all}
use Rattle.model.specs.Schema.{Base, integer, boolean, text, uuid, Column, scalar}
use Rattle.model.specs.Text.{chars}
use Rattle.model.specs.Value.{Value, elements, zeros, blank, byte_atom, ascending, canonical_tests, canonical_for, in_limits, atom_in_limits, all_in_limits, count_in_limits, meets, value_of, initial}
use Rattle.model.proofs.Tests.{split, and_l, and_r, parts, whole}
use Rattle.model.proofs.Lists.{all_head, all_tail, all_take, all_drop, all_append, all_same}
use Rattle.model.proofs.Atoms.{atom_length, blank_atom, blank_well}
use Rattle.model.proofs.Sets.{AtomsOf, atoms_none, atoms_cons}

pub elements_value_of : (l : List (List ℕ)) → elements (value_of l) ≡ l
elements_value_of l = take-append_seam l (replicate (4 - length l) blank)

-- a value is canonical by its elements
pub value_of_canonical : (c : Column) (l : List (List ℕ)) → length l ≤ 4 → (scalar c ≡ true → length l ≡ 1) → AtomsOf c.base l → ascending c.base l ≡ true
    → canonical_for c (value_of l) ≡ true
value_of_canonical c l few one x up =
    let r : List (List ℕ) = replicate (4 - length l) blank in
    let four : length (l ++ r) ≡ 4 = simp (length-append, length-replicate) (omega arith) in
    whole (canonical_tests c (value_of l)) (
      rw (eq-eqb (length (l ++ r)) 4 four) (all_append byte_atom l r x.bytes (all_same byte_atom (4 - length l) blank blank_atom)),
      (
        le-leb (length l) 4 few,
        (
          split (scalar c) (λ e. rw (e, one e)) (λ e. rw e),
          (rw (elements_value_of l) x.well, (rw (elements_value_of l) up, (rw (drop-append_seam l r) (all_same zeros (4 - length l) blank refl), tt))),
        ),
      ),
    )

-- ── and conversely ──
pub record Canonical (c : Column) (v : Value) : Type 0 where
  pub few : v.count ≤ 4
  pub size : length (elements v) ≡ v.count
  pub one : scalar c ≡ true → v.count ≡ 1
  pub atoms : AtomsOf c.base (elements v)
  pub up : ascending c.base (elements v) ≡ true
  pub same : value_of (elements v) ≡ v

zeros_blank : (a : List ℕ) → zeros a ≡ true → a ≡ replicate (length a) 0
zeros_blank [] h = refl
zeros_blank (x ∷ a) h =
    let p : x ≡ 0 = eqb-true x 0 (and_l (eqb x 0) (zeros a) h) in
    cc (zeros_blank a (and_r (eqb x 0) (zeros a) h))

blanks : (l : List (List ℕ)) → all byte_atom l ≡ true → all zeros l ≡ true → l ≡ replicate (length l) blank
blanks [] h g = refl
blanks (a ∷ l) h g =
    let p : a ≡ blank = zeros_blank a (all_head zeros a l g) ∙ ap (λ (n : ℕ). replicate n 0) (atom_length a (all_head byte_atom a l h)) in
    cc (blanks l (all_tail byte_atom a l h) (all_tail zeros a l g))

pub canonical : (c : Column) (v : Value) → canonical_for c v ≡ true → Canonical c v
canonical c v h =
    let t = parts (canonical_tests c v) h in
    let four : length v.atoms ≡ 4 = eqb-true (length v.atoms) 4 (and_l (eqb (length v.atoms) 4) (all byte_atom v.atoms) t.0) in
    let bytes : all byte_atom v.atoms ≡ true = and_r (eqb (length v.atoms) 4) (all byte_atom v.atoms) t.0 in
    let n : v.count ≤ 4 = leb-true v.count 4 t.1.0 in
    let m : length (elements v) ≡ v.count = omega (arith, length-take v.count v.atoms) in
    let d : length (drop v.count v.atoms) ≡ 4 - length (elements v) = omega (arith, length-drop v.count v.atoms) in
    let r : replicate (4 - length (elements v)) blank ≡ drop v.count v.atoms =
    ap (λ (k : ℕ). replicate k blank) (sym d) ∙ sym (blanks (drop v.count v.atoms) (all_drop byte_atom v.count v.atoms bytes) t.1.1.1.1.1.0) in
    let w : elements v ++ replicate (4 - length (elements v)) blank ≡ v.atoms =
    ap (λ (x : List (List ℕ)). elements v ++ x) r ∙ take-append-drop v.count v.atoms in
    record {
      few = n;
      size = m;
      one = λ e. eqb-true v.count 1 (rw e at t.1.1.0);
      atoms = record { bytes = all_take byte_atom v.count v.atoms bytes; well = t.1.1.1.0 };
      up = t.1.1.1.1.0;
      same = λ i. record { count = m i; atoms = w i };
    }

-- ── what meets a type ──
-- a count within the limits of a scalar is 1
pub scalar_one : (c : Column) (n : ℕ) → count_in_limits c n ≡ true → scalar c ≡ true → n ≡ 1
scalar_one c n h s =
    let low = leb-true c.min n (and_l (leb c.min n) (leb n c.max) h) in
    let high = leb-true n c.max (and_r (leb c.min n) (leb n c.max) h) in
    omega (arith, eqb-true c.min 1 (and_l (eqb c.min 1) (eqb c.max 1) s), eqb-true c.max 1 (and_r (eqb c.min 1) (eqb c.max 1) s))

pub record Meets (c : Column) (v : Value) : Type 0 where
  pub canonical : canonical_for c v ≡ true
  pub count : count_in_limits c v.count ≡ true
  pub within : all_in_limits c (elements v) ≡ true

pub meets_parts : (c : Column) (v : Value) → meets c v ≡ true → Meets c v
meets_parts c v h =
    let a : Bool = canonical_for c v in
    let b : Bool = count_in_limits c v.count in
    let d : Bool = all_in_limits c (elements v) in
    record { canonical = and_l a b (and_l (a && b) d h); count = and_r a b (and_l (a && b) d h); within = and_r (a && b) d h }

pub meets_whole : (c : Column) (v : Value) → Meets c v → meets c v ≡ true
meets_whole c v m = rw (m.canonical, m.count, m.within)

-- well-formed atoms in order, few and in the limits, are a value that meets the type
pub value_of_meets : (c : Column) (l : List (List ℕ)) → length l ≤ 4 → AtomsOf c.base l → ascending c.base l ≡ true → count_in_limits c (length l) ≡ true → all_in_limits c l ≡ true
    → meets c (value_of l) ≡ true
value_of_meets c l few x up n w =
    meets_whole c (value_of l) (record { canonical = value_of_canonical c l few (scalar_one c (length l) n) x up; count = n; within = rw (elements_value_of l) w })

-- ── the initial value ──
-- one atom that is all zeros
blank_only : (k : Base) → AtomsOf k (blank ∷ [])
blank_only k = atoms_cons k blank [] blank_atom (blank_well k) (atoms_none k)

pub initial_canonical : (c : Column) → canonical_for c (initial c) ≡ true
initial_canonical c = split (eqb c.min 0)
    (λ e. rw e (value_of_canonical c [] (omega arith) (λ s. absurd (never e s)) (atoms_none c.base) refl))
    (λ e. rw e (value_of_canonical c (blank ∷ []) (omega arith) (λ s. refl) (blank_only c.base) refl))
  where
    never : eqb c.min 0 ≡ true → scalar c ≡ true → ⊥
    never e s = omega (arith, eqb-true c.min 0 e, eqb-true c.min 1 (and_l (eqb c.min 1) (eqb c.max 1) s))

-- a type's 0 or "" is in the limits where 0 is
pub blank_in_limits : (c : Column) (k : Base) → in_limits c (pos 0) ≡ true → atom_in_limits c k blank ≡ true
unfolding chars
blank_in_limits c integer h = h
blank_in_limits c boolean h = refl
blank_in_limits c text h = h
blank_in_limits c uuid h = refl

-- the initial value meets a type whose minimum is 0, or whose limits have 0
pub initial_meets : (c : Column) → c.min ≤ 1 → 1 ≤ c.max → (c.min ≡ 0) ⊎ (atom_in_limits c c.base blank ≡ true) → meets c (initial c) ≡ true
initial_meets c few some d = rw (initial_canonical c) (split (eqb c.min 0)
    (λ e. rw (e, le-leb c.min 0 (omega (arith, eqb-true c.min 0 e)), le-leb 0 c.max (omega arith)))
    (λ e. rw (e, le-leb c.min 1 few, le-leb 1 c.max some) (within d e)))
  where
    within : (c.min ≡ 0) ⊎ (atom_in_limits c c.base blank ≡ true) → eqb c.min 0 ≡ false → all_in_limits c (blank ∷ []) ≡ true
    within (inl z) e = absurd (eqb-false c.min 0 e z)
    within (inr h) e = rw h
