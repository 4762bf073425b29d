-- Arithmetic on each element, one after another. Assumes nothing.
use mathlib.Core.Path.{◌≡◌, refl, sym, ap, ◌∙◌}
use mathlib.Core.Bool.{Bool, true, false, not, ◌&&◌}
use mathlib.Core.List.{List, [], ◌∷◌, ◌++◌, map, map-append, append_assoc}
use Prim.Native.Nat.{ℕ, suc, ◌+◌, ◌≤◌, ◌<◌}
use native.Mathlib.Numerals.{add-one}
use native.Mathlib.Omega.{arith}
use lib.IntN.{ℤ, pos, negsuc}
use lib.ListN.{length, get_or, take, drop, set, length-map, length-append, length-drop, drop_of_length-le}
use lib.Seq.{take-suc, drop-cons, set_at, take_at, take_all, length-take-le}
use Rattle.model.specs.Base.{all, distinct}
use Rattle.model.specs.Schema.{Column, integer}
use Rattle.model.specs.Catalog.{base_numbered}
use Rattle.model.specs.Value.{int_of, int_atom, sorted, value_of, all_in_limits}
use Rattle.model.specs.Faults.{is_fine, check}
use Rattle.model.specs.Mutations.{exact, divides, is_zero, in64, is_empty, results}
use Rattle.model.specs.declared.Fault.{Fault}
use Rattle.model.specs.declared.Fault.TheVariants.{Fine, Constraint, Domain, Range}
use Rattle.model.specs.declared.Mutator.{Mutator}
use Rattle.model.proofs.Tests.{split, clash}
use Rattle.model.proofs.Sets.{sorted_length}
use Rattle.integers.specs.Ints.{signed, int_in, as_int, fitted, calculated}
use Rattle.integers.specs.declared.Int.{Int}
use Rattle.integers.specs.declared.Exact.{Exact}
use Rattle.integers.specs.declared.Exact.TheVariants.{Number, ByZero, Outside}
use Rattle.mutations.specs.Steps.{exact_fault, result_atoms, Calculated, arithmetic_on, Results}

-- the integer of what stands for it
pub int_in_lem : (z : ℤ) → int_in (as_int z) ≡ z
unfolding signed as_int
int_in_lem (pos n) = refl
int_in_lem (negsuc n) = refl

-- ── what one result says ──
module _ (m : Mutator) (x b : ℤ) where
  by_none : (divides m && is_zero b) ≡ true → calculated m x b ≡ ByZero
  unfolding calculated
  by_none e = rw (calculated, e)

  outside : (divides m && is_zero b) ≡ false → in64 (exact (pos 1) m x b) ≡ false → calculated m x b ≡ Outside
  unfolding calculated fitted
  outside e f = rw (calculated, e) (rw (fitted, f))

  inside : (divides m && is_zero b) ≡ false → in64 (exact (pos 1) m x b) ≡ true → calculated m x b ≡ Number (as_int (exact (pos 1) m x b))
  unfolding calculated fitted
  inside e f = rw (calculated, e) (rw (fitted, f))

zero_number : {P : Type 0} (e : Exact) (z : Int) → e ≡ ByZero → e ≡ Number z → P
zero_number e z p q = let w : ◌≡◌ {A = ℕ} 0 1 = cc in absurd (omega arith)

zero_outside : {P : Type 0} (e : Exact) → e ≡ ByZero → e ≡ Outside → P
zero_outside e p q = let w : ◌≡◌ {A = ℕ} 0 1 = cc in absurd (omega arith)

outside_number : {P : Type 0} (e : Exact) (z : Int) → e ≡ Outside → e ≡ Number z → P
outside_number e z p q = let w : ◌≡◌ {A = ℕ} 0 1 = cc in absurd (omega arith)

same_number : (e : Exact) (y z : Int) → e ≡ Number y → e ≡ Number z → z ≡ y
same_number e y z p q = cc

module _ (m : Mutator) (b : ℤ) (x : List ℕ) (xs : List (List ℕ)) where
  abbrev one : Exact
  one = calculated m (int_of x) b

  more_fault : (divides m && is_zero b) ≡ false → in64 (exact (pos 1) m (int_of x) b) ≡ true → exact_fault m b (x ∷ xs) ≡ exact_fault m b xs
  unfolding exact_fault
  more_fault e f = rw (e, f)

  domain_fault : (divides m && is_zero b) ≡ true → exact_fault m b (x ∷ xs) ≡ Domain
  unfolding exact_fault
  domain_fault e = rw e

  range_fault : (divides m && is_zero b) ≡ false → in64 (exact (pos 1) m (int_of x) b) ≡ false → exact_fault m b (x ∷ xs) ≡ Range
  unfolding exact_fault
  range_fault e f = rw (e, f)

  number_on : (z : Int) → one ≡ Number z → (exact_fault m b (x ∷ xs) ≡ exact_fault m b xs) × (int_in z ≡ exact (pos 1) m (int_of x) b)
  number_on z h = split (divides m && is_zero b)
      (λ e. zero_number one z (by_none m (int_of x) b e) h)
      (λ e. split (in64 (exact (pos 1) m (int_of x) b))
      (λ f. (more_fault e f, ap int_in (same_number one (as_int (exact (pos 1) m (int_of x) b)) z (inside m (int_of x) b e f) h) ∙ int_in_lem (exact (pos 1) m (int_of x) b)))
      (λ f. outside_number one z (outside m (int_of x) b e f) h))

  zero_here : one ≡ ByZero → exact_fault m b (x ∷ xs) ≡ Domain
  zero_here h = split (divides m && is_zero b) domain_fault
      (λ e. split (in64 (exact (pos 1) m (int_of x) b))
      (λ f. zero_number one (as_int (exact (pos 1) m (int_of x) b)) h (inside m (int_of x) b e f))
      (λ f. zero_outside one h (outside m (int_of x) b e f)))

  outside_here : one ≡ Outside → exact_fault m b (x ∷ xs) ≡ Range
  outside_here h = split (divides m && is_zero b)
      (λ e. zero_outside one (by_none m (int_of x) b e) h)
      (λ e. split (in64 (exact (pos 1) m (int_of x) b))
      (λ f. outside_number one (as_int (exact (pos 1) m (int_of x) b)) h (inside m (int_of x) b e f))
      (λ f. range_fault e f))

none_fault : (m : Mutator) (b : ℤ) → exact_fault m b [] ≡ Fine
unfolding exact_fault
none_fault m b = split (divides m && is_zero b) (λ e. rw e) (λ e. rw e)

-- ── a list that is filled from its front with what a function makes of another ──
module _ {A B : Type 0} (f : A → B) (out : List B) (src : List A) (d : A) (e : B) where
  abbrev made : ℕ → List B
  made k = map f (take k src) ++ drop k out

  made_size : (k : ℕ) → k ≤ length src → length (map f (take k src)) ≡ k
  made_size k h = length-map (take k src) f ∙ length-take-le k src h

  made_more : (k : ℕ) → k < length src → k < length out → set (made k) k (f (get_or src k d)) ≡ made (k + 1)
  made_more k h g =
      ap (λ (q : List B). set (map f (take k src) ++ q) k (f (get_or src k d))) (drop-cons out k e g)
      ∙ set_at (map f (take k src)) (get_or out k e) (drop (suc k) out) (f (get_or src k d)) k (made_size k (omega arith))
      ∙ sym (append_assoc (map f (take k src)) (f (get_or src k d) ∷ []) (drop (suc k) out))
      ∙ ap (λ (q : List B). q ++ drop (suc k) out) (sym (ap (map f) (take-suc src k d h) ∙ map-append f (take k src) (get_or src k d ∷ [])))
      ∙ ap made (sym (add-one k))

  made_length : (k : ℕ) → k ≤ length src → k ≤ length out → length (made k) ≡ length out
  made_length k h g = length-append (map f (take k src)) (drop k out) ∙ omega (arith, made_size k h, length-drop k out)

-- ── each element ──
abbrev pub result_of : Mutator → ℤ → List ℕ → List ℕ
result_of m b x = int_atom (exact (pos 1) m (int_of x) b)

results_map : (m : Mutator) (b : ℤ) (xs : List (List ℕ)) → result_atoms m b xs ≡ map (result_of m b) xs
unfolding result_atoms
results_map m b [] = refl
results_map m b (x ∷ xs) = ap (λ (l : List (List ℕ)). result_of m b x ∷ l) (results_map m b xs)

pub results_length : (m : Mutator) (b : ℤ) (xs : List (List ℕ)) → length (result_atoms m b xs) ≡ length xs
results_length m b xs = ap length (results_map m b xs) ∙ length-map xs (result_of m b)

module _ (m : Mutator) (b : ℤ) (xs before : List (List ℕ)) where
  -- the first i have their results
  pub record Going (i : ℕ) (out : List (List ℕ)) : Type 0 where
    pub few : i ≤ length xs
    pub cells : out ≡ made (result_of m b) before xs [] [] i
    pub rest : exact_fault m b xs ≡ exact_fault m b (drop i xs)

  pub going_none : Going 0 before
  going_none = record { few = omega arith; cells = refl; rest = refl }

  module _ (fit : length xs ≤ length before) (i : ℕ) (out : List (List ℕ)) (g : Going i out) where
    pub going_length : length out ≡ length before
    going_length = ap length g.cells ∙ made_length (result_of m b) before xs [] [] i g.few (omega (arith, g.few))

    here : i < length xs → exact_fault m b xs ≡ exact_fault m b (get_or xs i [] ∷ drop (suc i) xs)
    here h = g.rest ∙ ap (exact_fault m b) (drop-cons xs i [] h)

    pub going_on : i < length xs → (z : Int) (a : List ℕ) → calculated m (int_of (get_or xs i [])) b ≡ Number z → a ≡ int_atom (int_in z) → Going (i + 1) (set out i a)
    going_on h z a e f =
        let p = number_on m b (get_or xs i []) (drop (suc i) xs) z e in
        record {
          few = omega arith;
          cells = ap (λ (q : List (List ℕ)). set q i a) g.cells
              ∙ ap (set (made (result_of m b) before xs [] [] i) i) (f ∙ ap int_atom p.1)
              ∙ made_more (result_of m b) before xs [] [] i h (omega arith);
          rest = here h ∙ p.0 ∙ ap (λ (n : ℕ). exact_fault m b (drop n xs)) (sym (add-one i));
        }

    pub going_zero : i < length xs → calculated m (int_of (get_or xs i [])) b ≡ ByZero → (after : List (List ℕ)) → Calculated m b xs Domain before after
    going_zero h e after = record { fault = sym (here h ∙ zero_here m b (get_or xs i []) (drop (suc i) xs) e); atoms = λ k. absurd (clash false k refl) }

    pub going_outside : i < length xs → calculated m (int_of (get_or xs i [])) b ≡ Outside → (after : List (List ℕ)) → Calculated m b xs Range before after
    going_outside h e after = record { fault = sym (here h ∙ outside_here m b (get_or xs i []) (drop (suc i) xs) e); atoms = λ k. absurd (clash false k refl) }

    pub going_end : length xs ≤ i → Calculated m b xs Fine before out
    going_end h =
        let n : i ≡ length xs = omega (arith, g.few) in
        record {
          fault = sym (g.rest ∙ ap (exact_fault m b) (drop_of_length-le xs {i = i} h) ∙ none_fault m b);
          atoms = λ k. g.cells ∙ ap (λ (l : List (List ℕ)). map (result_of m b) l ++ drop i before) (take_all i xs h)
              ∙ ap (λ (l : List (List ℕ)). l ++ drop i before) (sym (results_map m b xs))
              ∙ ap (λ (j : ℕ). result_atoms m b xs ++ drop j before) n;
        }

-- ── all of it judged ──
stops : (a b : Bool) (f g h : Fault) → is_fine (check a f (check b g Fine)) ≡ false → check a f (check b g Fine) ≡ check a f (check b g h)
stops true true f g h e = absurd (clash true refl e)
stops true false f g h e = refl
stops false b f g h e = refl

goes : (a b : Bool) (f g h : Fault) → is_fine f ≡ false → is_fine g ≡ false → is_fine (check a f (check b g Fine)) ≡ true → check a f (check b g h) ≡ h
goes true true f g h p q e = refl
goes true false f g h p q e = absurd (clash (is_fine g) e q)
goes false b f g h p q e = absurd (clash (is_fine f) e p)

module _ (c : Column) (m : Mutator) (b : ℤ) (xs : List (List ℕ)) where
  abbrev limits : Bool
  limits = distinct (result_atoms m b xs) && all_in_limits c (result_atoms m b xs)

  pub stop_fault : is_fine (exact_fault m b xs) ≡ false → exact_fault m b xs ≡ (arithmetic_on c m b xs).fault
  unfolding exact_fault arithmetic_on result_atoms
  stop_fault h = stops (not (divides m && is_zero b && not (is_empty xs))) (all in64 (results m b xs)) Domain Range (check limits Constraint Fine) h

  pub go_fault : is_fine (exact_fault m b xs) ≡ true → (arithmetic_on c m b xs).fault ≡ check limits Constraint Fine
  unfolding exact_fault arithmetic_on result_atoms
  go_fault h = goes (not (divides m && is_zero b && not (is_empty xs))) (all in64 (results m b xs)) Domain Range (check limits Constraint Fine) refl refl h

  module _ (r : Fault) (before after : List (List ℕ)) (k : Calculated m b xs r before after) where
    pub results_stop : is_fine r ≡ false → Results (arithmetic_on c m b xs) (length xs) (result_atoms m b xs) r after
    results_stop h = record { fault = k.fault ∙ stop_fault (ap is_fine (sym k.fault) ∙ h); atoms = λ e. absurd (clash (is_fine r) e h) }

    pub front : is_fine r ≡ true → take (length xs) after ≡ result_atoms m b xs
    front h = ap (take (length xs)) (k.atoms h) ∙ take_at (result_atoms m b xs) (drop (length xs) before) (length xs) (results_length m b xs)

    module _ (h : is_fine r ≡ true) (d w : Bool) (p : d ≡ distinct (take (length xs) after)) (q : w ≡ all_in_limits c (take (length xs) after)) where
      judged : check (d && w) Constraint Fine ≡ (arithmetic_on c m b xs).fault
      judged =
          ap (λ (t : Bool). check (t && w) Constraint Fine) (p ∙ ap distinct (front h))
          ∙ ap (λ (t : Bool). check (distinct (result_atoms m b xs) && t) Constraint Fine) (q ∙ ap (all_in_limits c) (front h))
          ∙ sym (go_fault (ap is_fine (sym k.fault) ∙ h))

      pub results_yes : (d && w) ≡ true → Results (arithmetic_on c m b xs) (length xs) (result_atoms m b xs) Fine after
      results_yes e = record { fault = ap (λ (t : Bool). check t Constraint Fine) (sym e) ∙ judged; atoms = λ _. front h }

      pub results_no : (d && w) ≡ false → Results (arithmetic_on c m b xs) (length xs) (result_atoms m b xs) Constraint after
      results_no e = record { fault = ap (λ (t : Bool). check t Constraint Fine) (sym e) ∙ judged; atoms = λ z. absurd (clash false z refl) }

  -- ── the value that is left ──
  pub arithmetic_value : (n : ℕ) (out a : List (List ℕ)) → n ≡ length xs → take n out ≡ result_atoms m b xs → a ≡ (value_of (sorted (base_numbered 0) (take n out))).atoms
      → record { count = n; atoms = a } ≡ value_of (arithmetic_on c m b xs).got
  unfolding arithmetic_on result_atoms base_numbered
  arithmetic_value n out a e f g =
      let p : n ≡ length (sorted integer (result_atoms m b xs)) = e ∙ sym (sorted_length integer (result_atoms m b xs) ∙ results_length m b xs) in
      let q : a ≡ (value_of (sorted integer (result_atoms m b xs))).atoms = g ∙ ap (λ (l : List (List ℕ)). (value_of (sorted integer l)).atoms) f in
      λ i. record { count = p i; atoms = q i }
