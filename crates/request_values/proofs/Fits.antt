-- Values without a fault, and which of them fit four places of 25 bytes. Assumes nothing.
use mathlib.Core.Path.{◌≡◌, refl, sym, ap, ◌∙◌}
use mathlib.Core.Bool.{Bool, true, false, ◌&&◌}
use mathlib.Core.List.{List, [], ◌∷◌}
use Prim.Native.Nat.{ℕ, ◌-◌, ◌<◌}
use native.Mathlib.Omega.{arith}
use lib.Dec.{eqb, leb}
use lib.ListN.{length, take, replicate}
use lib.Seq.{take-append_seam}
use borrow.Author.Tests.{eqb-true}
use Rattle.model.specs.declared.Fault.{Fault}
use Rattle.model.specs.declared.Fault.TheVariants.{Fine, Resources, Constraint}
use Rattle.model.specs.declared.Mutator.{Mutator}
use Rattle.model.specs.declared.Mutator.TheVariants.{Add, Subtract, Multiply, Divide, Remainder, Insert, Delete}
use Rattle.model.specs.Base.{any, distinct}
use Rattle.model.specs.Json.{Json}
use Rattle.model.specs.Schema.{Base, integer, boolean, text, uuid, Column}
use Rattle.model.specs.Value.{Value, blank, sorted, value_of, all_in_limits, count_in_limits}
use Rattle.model.specs.Faults.{is_fine, check}
use Rattle.model.specs.Written.{Names, elements_in, long_atom, fitting, row_fault, insert_fault, operand_fault, written}
use Rattle.model.specs.Conditions.{is_integer_base}
use Rattle.model.specs.Mutations.{suits, mutation_fault}
use Rattle.model.specs.Operations.{value_written}
use Rattle.model.proofs.Tests.{split, clash}
use Rattle.model.proofs.Sets.{sorted_length}
use Rattle.model.proofs.FaultLaws.{check_fine, check_true}
use Rattle.element_sets.specs.Tallies.{all_typed}
use Rattle.request_values.specs.Values.{atoms_as, Inspected, Sorts, RowGiven, ValueGiven}
use Rattle.request_values.proofs.Judging.{written_typed, written_not, few_short, fits_few}

module _ (names : Names) (k : Base) (judge : List (List ℕ) → Fault) (j : Json) where
  -- a value without a fault is of its type
  pub fine_typed : is_fine (written names k judge j).fault ≡ true → all_typed names k (elements_in j) ≡ true
  fine_typed h = split (all_typed names k (elements_in j)) (λ e. e) (λ e. absurd (clash false (sym (ap is_fine (written_not names k judge j e)) ∙ h) refl))

  pub fine_judged : is_fine (written names k judge j).fault ≡ true → is_fine (judge (atoms_as names k j)) ≡ true
  fine_judged h = ap is_fine (sym (written_typed names k judge j (fine_typed h)).0) ∙ h

  pub fine_got : is_fine (written names k judge j).fault ≡ true → (written names k judge j).got ≡ atoms_as names k j
  fine_got h = (written_typed names k judge j (fine_typed h)).1

no_long : (k : Base) → is_integer_base k ≡ true → (l : List (List ℕ)) → any (long_atom k) l ≡ false
no_long k i [] = refl
no_long integer i (a ∷ l) = no_long integer i l
no_long boolean i (a ∷ l) = cc
no_long text i (a ∷ l) = cc
no_long uuid i (a ∷ l) = cc

module _ (names : Names) (c : Column) (j : Json) where
  row_fitting : is_fine (written names c.base (row_fault c) j).fault ≡ true → fitting c (atoms_as names c.base j) ≡ true
  row_fitting h =
      let l = atoms_as names c.base j in
      (check_fine (fitting c l) Resources (check (distinct l && all_in_limits c l && count_in_limits c (length l)) Constraint Fine) refl (fine_judged names c.base (row_fault c) j h)).0

  insert_fitting : is_fine (written names c.base (insert_fault c) j).fault ≡ true → fitting c (atoms_as names c.base j) ≡ true
  insert_fitting h =
      let l = atoms_as names c.base j in
      (check_fine (fitting c l) Resources (check (distinct l && all_in_limits c l && leb (length l) c.max) Constraint Fine) refl (fine_judged names c.base (insert_fault c) j h)).0

  -- one integer is not long
  operand_fitting : is_integer_base c.base ≡ true → is_fine (written names c.base operand_fault j).fault ≡ true → fitting c (atoms_as names c.base j) ≡ true
  operand_fitting i h =
      let l = atoms_as names c.base j in
      let one = eqb-true (length l) 1 (check_true (eqb (length l) 1) Constraint refl (fine_judged names c.base operand_fault j h)) in
      rw (one, no_long c.base i l)

  -- what does not fit is deleted
  pub beyond_deletes : (m : Mutator) → suits c m ≡ true → is_fine (written names c.base (mutation_fault c m) j).fault ≡ true → fitting c (atoms_as names c.base j) ≡ false → m ≡ Delete
  beyond_deletes Add i h n = absurd (clash (fitting c (atoms_as names c.base j)) (operand_fitting i h) n)
  beyond_deletes Subtract i h n = absurd (clash (fitting c (atoms_as names c.base j)) (operand_fitting i h) n)
  beyond_deletes Multiply i h n = absurd (clash (fitting c (atoms_as names c.base j)) (operand_fitting i h) n)
  beyond_deletes Divide i h n = absurd (clash (fitting c (atoms_as names c.base j)) (operand_fitting i h) n)
  beyond_deletes Remainder i h n = absurd (clash (fitting c (atoms_as names c.base j)) (operand_fitting i h) n)
  beyond_deletes Insert i h n = absurd (clash (fitting c (atoms_as names c.base j)) (insert_fitting h) n)
  beyond_deletes Delete i h n = refl

-- ── values given, with their atoms ──
module _ (k : Base) (n : ℕ) (entry : List (List ℕ)) {exit : List (List ℕ)} where
  pub sorts_one : n < 2 → exit ≡ entry → Sorts k n entry exit
  unfolding Sorts
  sorts_one h e [] m a = e ∙ a
  sorts_one h e (x ∷ []) m a = e ∙ a
  sorts_one h e (x ∷ y ∷ l) m a = absurd (omega arith)

  pub sorts_all : exit ≡ (value_of (sorted k (take n entry))).atoms → Sorts k n entry exit
  unfolding Sorts
  sorts_all e l m a = e ∙ ap (λ y. (value_of (sorted k y)).atoms) (ap (λ x. take x entry) m ∙ ap (take (length l)) a ∙ take-append_seam l (replicate (4 - length l) blank))

abbrev value_as : ℕ → List (List ℕ) → Value
value_as n l = record { count = n; atoms = l }

same_value_lem : {a n : ℕ} {x y : List (List ℕ)} → a ≡ n → y ≡ x → value_as n y ≡ value_as a x
same_value_lem {a} {n} {x} {y} e f = ap (λ m. value_as m y) (sym e) ∙ ap (value_as a) f

module _ (names : Names) (c : Column) (j : Json) {n : ℕ} {t s w d : Bool} {atoms : List (List ℕ)} (p : Inspected names c j n t s w d atoms) where
  pub row_given : {r : Fault} {after : List (List ℕ)} → r ≡ (value_written names c j).fault → ((leb n 4 && s) ≡ true → Sorts c.base n atoms after) → RowGiven names c j r n (leb n 4 && s) after
  unfolding Sorts
  row_given {r} {after} e q =
      let l = atoms_as names c.base j in
      let fit : is_fine (value_written names c j).fault ≡ true → (leb n 4 && s) ≡ true = λ h. few_short names c j p ∙ row_fitting names c j h in
      record {
        fault = e;
        few = fits_few n s;
        fit = fit;
        got = λ h.
            let z : after ≡ (value_of (sorted c.base l)).atoms = q (fit h) l p.count (p.gathered (row_fitting names c j h)) in
            let m : length (sorted c.base l) ≡ n = sorted_length c.base l ∙ sym p.count in
            ap (λ y. value_of (sorted c.base y)) (fine_got names c.base (row_fault c) j h) ∙ sym (same_value_lem m z);
      }

  pub value_given : (judge : List (List ℕ) → Fault) {r : Fault} → r ≡ (written names c.base judge j).fault → ValueGiven names c judge j r n (leb n 4 && s) atoms
  value_given judge e =
      let v = written names c.base judge j in
      let got : is_fine v.fault ≡ true → v.got ≡ atoms_as names c.base j = fine_got names c.base judge j in
      record {
        fault = e;
        count = λ h. p.count ∙ ap length (sym (got h));
        fit = λ h. few_short names c j p ∙ ap (fitting c) (sym (got h));
        gathered = λ h y. p.gathered (sym (few_short names c j p) ∙ y) ∙ ap (λ l. (value_of l).atoms) (sym (got h));
      }
