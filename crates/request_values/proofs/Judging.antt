-- A value as written, judged by all its atoms. Assumes nothing.
use mathlib.Core.Path.{◌≡◌, refl, sym, ap, ◌∙◌}
use mathlib.Core.Bool.{Bool, true, false, not, ◌&&◌}
use mathlib.Core.List.{List, [], ◌∷◌}
use Prim.Native.Nat.{ℕ, suc, ◌-◌, ◌≤◌}
use native.Mathlib.Omega.{arith}
use lib.Dec.{eqb, leb}
use lib.ListN.{length, take, replicate}
use lib.Seq.{take-append_seam}
use borrow.Author.Tests.{leb-true}
use Rattle.model.specs.declared.Fault.{Fault}
use Rattle.model.specs.declared.Fault.TheVariants.{Fine, Syntax, Resources, Constraint}
use Rattle.model.specs.declared.Function.{Function}
use Rattle.model.specs.declared.Mutator.{Mutator}
use Rattle.model.specs.declared.Mutator.TheVariants.{Add, Subtract, Multiply, Divide, Remainder, Insert, Delete}
use Rattle.std.specs.Prelude.{if◌then◌else◌, Option, Some, None}
use Rattle.model.specs.Base.{any, is_some, distinct}
use Rattle.model.specs.Json.{Json}
use Rattle.model.specs.Schema.{Base, Column, scalar}
use Rattle.model.specs.Value.{blank, value_of, all_in_limits}
use Rattle.model.specs.Faults.{check, Judged}
use Rattle.model.specs.Written.{Names, elements_in, atom_in, atoms_in, long_atom, row_fault, insert_fault, delete_fault, operand_fault, set_count, test_fault, written}
use Rattle.model.specs.Mutations.{mutation_fault}
use Rattle.model.proofs.Tests.{split, and_l, and_r}
use Rattle.model.proofs.WrittenLaws.{fitting_parts}
use Rattle.elements.specs.Elements.{elements_from, Begins}
use Rattle.element_atoms.specs.Atoms.{cell_of, atom_as, atoms_of}
use Rattle.element_sets.specs.Tallies.{is_typed, all_typed, all_short, all_within, Tallied}
use Rattle.request_values.specs.Values.{atoms_as, Inspected, first_fault}

-- ── the atoms of elements that are all of their type ──
abbrev joined : Option (List ℕ) → Option (List (List ℕ)) → Option (List (List ℕ))
joined o r = elim o [ None ↦ None | Some a ↦ elim r [ None ↦ None | Some l ↦ Some (a ∷ l) ] ]

is_some_lem : (o : Option (List ℕ)) → is_some o ≡ true → o ≡ Some (cell_of o)
unfolding cell_of
is_some_lem None h = cc
is_some_lem (Some a) h = refl

is_none : (o : Option (List ℕ)) → is_some o ≡ false → o ≡ None
is_none None h = refl
is_none (Some a) h = cc

module _ (names : Names) (k : Base) where
  atoms_in_lem : (js : List Json) → all_typed names k js ≡ true → atoms_in names k js ≡ Some (atoms_of names k js)
  unfolding all_typed is_typed atoms_of atom_as
  atoms_in_lem [] h = refl
  atoms_in_lem (j ∷ js) h =
      ap (λ o. joined o (atoms_in names k js)) (is_some_lem (atom_in names k j) (and_l (is_typed names k j) (all_typed names k js) h))
      ∙ ap (joined (Some (cell_of (atom_in names k j)))) (atoms_in_lem js (and_r (is_typed names k j) (all_typed names k js) h))

  atoms_none : (js : List Json) → all_typed names k js ≡ false → atoms_in names k js ≡ None
  unfolding all_typed is_typed
  atoms_none [] h = cc
  atoms_none (j ∷ js) h = split (is_typed names k j)
      (λ e. ap (λ o. joined o (atoms_in names k js)) (is_some_lem (atom_in names k j) e)
      ∙ ap (joined (Some (cell_of (atom_in names k j)))) (atoms_none js (ap (λ b. b && all_typed names k js) (sym e) ∙ h)))
      (λ e. ap (λ o. joined o (atoms_in names k js)) (is_none (atom_in names k j) e))

  pub atoms_length : (js : List Json) → length (atoms_of names k js) ≡ length js
  unfolding atoms_of
  atoms_length [] = refl
  atoms_length (j ∷ js) = ap suc (atoms_length js)

  -- ── how it is judged ──
  module _ (judge : List (List ℕ) → Fault) (j : Json) where
    abbrev judged_by : Option (List (List ℕ)) → Judged (List (List ℕ))
    judged_by o = elim o [ None ↦ record { fault = Syntax; got = [] } | Some l ↦ record { fault = judge l; got = l } ]

    pub written_typed : all_typed names k (elements_in j) ≡ true → ((written names k judge j).fault ≡ judge (atoms_as names k j)) × ((written names k judge j).got ≡ atoms_as names k j)
    unfolding atoms_as
    written_typed h = let e = ap judged_by (atoms_in_lem (elements_in j) h) in (ap (λ w. w.fault) e, ap (λ w. w.got) e)

    pub written_not : all_typed names k (elements_in j) ≡ false → (written names k judge j).fault ≡ Syntax
    written_not h = ap (λ o. (judged_by o).fault) (atoms_none (elements_in j) h)

    pub first_is : (fits allowed : Bool) {r : Fault} (t : Bool) → r ≡ first_fault t fits allowed → t ≡ all_typed names k (elements_in j) → check fits Resources (check allowed Constraint Fine) ≡ judge (atoms_as names k j)
        → r ≡ (written names k judge j).fault
    unfolding first_fault
    first_is fits allowed {r} t g e q = g ∙ split t
        (λ h. ap (λ b. check b Syntax (check fits Resources (check allowed Constraint Fine))) h ∙ q ∙ sym (written_typed (sym e ∙ h)).0)
        (λ h. ap (λ b. check b Syntax (check fits Resources (check allowed Constraint Fine))) h ∙ sym (written_not (sym e ∙ h)))

both : {a b c d : Bool} → a ≡ b → c ≡ d → (a && c) ≡ (b && d)
both {b = b} {c = c} p q = ap (λ x. x && c) p ∙ ap (λ y. b && y) q

checks : {a b c d : Bool} → a ≡ b → c ≡ d → check a Resources (check c Constraint Fine) ≡ check b Resources (check d Constraint Fine)
checks {b = b} {c = c} p q = ap (λ x. check x Resources (check c Constraint Fine)) p ∙ ap (λ y. check b Resources (check y Constraint Fine)) q

-- ── each kind of value ──
module _ (names : Names) (c : Column) (j : Json) {n : ℕ} {t s w d : Bool} {atoms : List (List ℕ)} (p : Inspected names c j n t s w d atoms) where
  pub few_short : (leb n 4 && s) ≡ (leb (length (atoms_as names c.base j)) 4 && not (any (long_atom c.base) (atoms_as names c.base j)))
  few_short = both (ap (λ x. leb x 4) p.count) p.short

  allowed : (d && w) ≡ (distinct (atoms_as names c.base j) && all_in_limits c (atoms_as names c.base j))
  allowed = both p.different p.within

  at_least : {min : ℕ} → min ≡ c.min → leb min n ≡ leb c.min (length (atoms_as names c.base j))
  at_least e = ap (λ x. leb x n) e ∙ ap (leb c.min) p.count

  at_most : {max : ℕ} → max ≡ c.max → leb n max ≡ leb (length (atoms_as names c.base j)) c.max
  at_most e = ap (leb n) e ∙ ap (λ x. leb x c.max) p.count

  pub row_is : {min max : ℕ} → min ≡ c.min → max ≡ c.max → check (leb n 4 && s) Resources (check ((d && w) && (leb min n && leb n max)) Constraint Fine) ≡ row_fault c (atoms_as names c.base j)
  row_is a b = checks few_short (both allowed (both (at_least a) (at_most b)))

  pub insert_is : {max : ℕ} → max ≡ c.max → check (leb n 4 && s) Resources (check ((d && w) && leb n max) Constraint Fine) ≡ insert_fault c (atoms_as names c.base j)
  insert_is b = checks few_short (both allowed (at_most b))

  pub delete_is : check (d && w) Constraint Fine ≡ delete_fault c (atoms_as names c.base j)
  delete_is = ap (λ x. check x Constraint Fine) allowed

  pub operand_is : check (eqb n 1) Constraint Fine ≡ operand_fault (atoms_as names c.base j)
  operand_is = ap (λ x. check (eqb x 1) Constraint Fine) p.count

  pub test_is : (f : Function) {b : Bool} → b ≡ (if scalar c then eqb n 1 else set_count c f n) → check (d && b) Constraint Fine ≡ test_fault c f (atoms_as names c.base j)
  test_is f e = ap (λ x. check x Constraint Fine) (both p.different (e ∙ ap (λ x. if scalar c then eqb x 1 else set_count c f x) p.count))

-- ── the five mutators of arithmetic ──
abbrev pub Five : Mutator → Type 0
Five m = (m ≡ Insert → ⊥) × (m ≡ Delete → ⊥)

pub five_fault : (c : Column) (m : Mutator) → Five m → (l : List (List ℕ)) → operand_fault l ≡ mutation_fault c m l
five_fault c Add k l = refl
five_fault c Subtract k l = refl
five_fault c Multiply k l = refl
five_fault c Divide k l = refl
five_fault c Remainder k l = refl
five_fault c Insert k l = absurd (k.0 refl)
five_fault c Delete k l = absurd (k.1 refl)

-- ── inspected by places ──
pub inspected : (names : Names) (c : Column) (s : List ℕ) (set : Bool) (f : Option ℕ) (j : Json) {n : ℕ} {t sh w d : Bool} {atoms : List (List ℕ)} → Begins s set f j
    → Tallied names c (elements_from s set f) n t sh w atoms → d ≡ distinct (atoms_of names c.base (elements_from s set f)) → Inspected names c j n t sh w d atoms
unfolding atoms_as all_short all_within
inspected names c s set f j b q e =
    let a = sym b.all in
    let l = atoms_as names c.base j in
    record {
      count = q.count ∙ ap length a ∙ sym (atoms_length names c.base (elements_in j));
      typed = q.typed ∙ ap (all_typed names c.base) a;
      short = q.short ∙ ap (all_short names c.base) a;
      within = q.within ∙ ap (all_within names c) a;
      different = e ∙ ap (λ k. distinct (atoms_of names c.base k)) a;
      gathered = λ h.
          let p = fitting_parts c l h in
          q.gathered (ap (all_short names c.base) a ∙ ap not p.1) (omega (arith, p.0, ap length b.all, atoms_length names c.base (elements_in j)))
          ∙ ap (λ k. (value_of (atoms_of names c.base k)).atoms) a;
    }

pub fits_few : (n : ℕ) (s : Bool) → (leb n 4 && s) ≡ true → n ≤ 4
fits_few n s h = leb-true n 4 (and_l (leb n 4) s h)

-- the atoms in use where they fit, and different elements by them
module _ (names : Names) (c : Column) (js : List Json) {n : ℕ} {t s w : Bool} {atoms : List (List ℕ)} (q : Tallied names c js n t s w atoms) (h : (leb n 4 && s) ≡ true) where
  taken : take n atoms ≡ atoms_of names c.base js
  taken =
      let l = atoms_of names c.base js in
      let g : atoms ≡ (value_of l).atoms = q.gathered (sym q.short ∙ and_r (leb n 4) s h) (omega (arith, q.count, fits_few n s h)) in
      ap (λ x. take x atoms) (q.count ∙ sym (atoms_length names c.base js)) ∙ ap (take (length l)) g ∙ take-append_seam l (replicate (4 - length l) blank)

  pub taken_length : n ≡ length (take n atoms)
  taken_length = q.count ∙ sym (atoms_length names c.base js) ∙ ap length (sym taken)

  pub taken_distinct : distinct (take n atoms) ≡ distinct (atoms_of names c.base js)
  taken_distinct = ap distinct taken
