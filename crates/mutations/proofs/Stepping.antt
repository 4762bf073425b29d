-- A column of a row after a mutation. Assumes nothing.
use mathlib.Core.Path.{◌≡◌, refl, sym, ap, subst, ◌∙◌}
use mathlib.Core.Bool.{Bool, true, false}
use mathlib.Core.List.{List}
use Prim.Native.Nat.{ℕ, ◌≤◌, ◌<◌}
use native.Mathlib.Omega.{arith}
use borrow.Author.Tests.{lt-leb, le-leb}
use lib.ListN.{length, take}
use Rattle.model.specs.Schema.{Base, Column}
use Rattle.model.specs.Value.{Value, value_of, union, without}
use Rattle.model.specs.Rows.{set_column}
use Rattle.model.specs.Areas.{row_from}
use Rattle.model.specs.Faults.{is_fine, Judged}
use Rattle.model.specs.Conditions.{is_integer_base, first_int}
use Rattle.model.specs.Mutations.{suits}
use Rattle.model.specs.declared.Fault.{Fault}
use Rattle.model.specs.declared.Fault.TheVariants.{Fine, Resources, Constraint}
use Rattle.model.specs.declared.Mutator.{Mutator}
use Rattle.model.specs.declared.Mutator.TheVariants.{Add, Subtract, Multiply, Divide, Remainder, Insert, Delete}
use Rattle.model.proofs.Tests.{split, clash}
use Rattle.inner.specs.Positions.{tree_at}
use Rattle.uuids.specs.Named.{names_at}
use Rattle.request_values.specs.Values.{atoms_as}
use Rattle.rows.specs.Post.{ColumnSet}
use Rattle.request_values.proofs.Judging.{Five}
use Rattle.mutations.specs.Steps.{arithmetic_on, inserted_on, deleted_on, mutated_on, Kept, Stepped}
use Rattle.mutations.specs.Mutating.{elements_read, Ready}
use Rattle.mutations.specs.declared.read.Mutation.{Mutation as Read}

-- ── a value made ──
pub value_is : (l a : List (List ℕ)) (n : ℕ) → n ≡ length l → a ≡ (value_of l).atoms → record { count = n; atoms = a } ≡ value_of l
value_is l a n p q = λ i. record { count = p i; atoms = q i }

-- ── the row after it ──
module _ (j : Judged (List (List ℕ))) (c : ℕ) (r : Fault) (entry exit : List (List ℕ)) (e : r ≡ j.fault) where
  pub stepped_set : is_fine r ≡ true → (v : Value) → v ≡ value_of j.got → ColumnSet c v entry exit → Stepped j c r entry exit
  stepped_set y v f s = record {
    fault = e;
    row = λ h sc. s.row sc ∙ ap (λ w. set_column c w (row_from sc entry)) f;
    unchanged = λ n. absurd (clash (is_fine r) y n);
    tidy = s.tidy;
  }

pub stepped_stop : (j : Judged (List (List ℕ))) (c : ℕ) (r : Fault) (row : List (List ℕ)) → r ≡ j.fault → is_fine r ≡ false → Stepped j c r row row
stepped_stop j c r row e n = record { fault = e; row = λ h. absurd (clash (is_fine r) h n); unchanged = λ h. refl; tidy = λ s a b t. t }

pub stepped_as : {i j : Judged (List (List ℕ))} {c : ℕ} {r : Fault} {entry exit : List (List ℕ)} → i ≡ j → Stepped i c r entry exit → Stepped j c r entry exit
stepped_as {c = c} {r = r} {entry = entry} {exit = exit} e s = subst (λ q. Stepped q c r entry exit) e s

-- ── insert and delete on elements ──
module _ (c : Column) (l xs : List (List ℕ)) (n : ℕ) (e : n ≡ length (union c.base xs l)) where
  pub insert_many : 4 < n → Resources ≡ (inserted_on c l xs).fault
  unfolding inserted_on
  insert_many h = rw (lt-leb (length (union c.base xs l)) 4 (omega arith))

  pub insert_most_lem : n ≤ 4 → c.max < n → Constraint ≡ (inserted_on c l xs).fault
  unfolding inserted_on
  insert_most_lem h g = rw (le-leb (length (union c.base xs l)) 4 (omega arith), lt-leb (length (union c.base xs l)) c.max (omega arith))

  pub insert_good : n ≤ 4 → n ≤ c.max → Fine ≡ (inserted_on c l xs).fault
  unfolding inserted_on
  insert_good h g = rw (le-leb (length (union c.base xs l)) 4 (omega arith), le-leb (length (union c.base xs l)) c.max (omega arith))

  pub insert_value : (a : List (List ℕ)) → a ≡ (value_of (union c.base xs l)).atoms → record { count = n; atoms = a } ≡ value_of (inserted_on c l xs).got
  unfolding inserted_on
  insert_value a f = value_is (union c.base xs l) a n e f

module _ (c : Column) (l xs : List (List ℕ)) (n : ℕ) (e : n ≡ length (without l xs)) where
  pub delete_least : n < c.min → Constraint ≡ (deleted_on c l xs).fault
  unfolding deleted_on
  delete_least h = rw (lt-leb c.min (length (without l xs)) (omega arith))

  pub delete_good : c.min ≤ n → Fine ≡ (deleted_on c l xs).fault
  unfolding deleted_on
  delete_good h = rw (le-leb c.min (length (without l xs)) (omega arith))

  pub delete_value : (a : List (List ℕ)) → a ≡ (value_of (without l xs)).atoms → record { count = n; atoms = a } ≡ value_of (deleted_on c l xs).got
  unfolding deleted_on
  delete_value a f = value_is (without l xs) a n e f

pub kept_as_lem : {l m s : List (List ℕ)} {n : ℕ} → l ≡ m → Kept l n s → Kept m n s
kept_as_lem {s = s} {n = n} e k = subst (λ (x : List (List ℕ)). Kept x n s) e k

-- ── the elements of a mutation as read ──
module _ (text names : List ℕ) (k : Base) (m : Read) (atoms : List (List ℕ)) where
  abbrev by_fit : Bool → List (List ℕ)
  by_fit b = elim b [ true ↦ take m.count atoms | false ↦ atoms_as (names_at text names) k (tree_at text m.at) ]

  pub read_held : m.fits ≡ true → elements_read text names k m atoms ≡ take m.count atoms
  unfolding elements_read
  read_held e = ap by_fit e

  pub read_text : m.fits ≡ false → elements_read text names k m atoms ≡ atoms_as (names_at text names) k (tree_at text m.at)
  unfolding elements_read
  read_text e = ap by_fit e

-- but for a delete they are held
module _ (text : List ℕ) (m : Read) (atoms : List (List ℕ)) (r : Ready text m atoms) where
  pub insert_held : m.mutator ≡ Insert → m.fits ≡ true
  insert_held e = split m.fits (λ y. y) (λ f. let d = r.deletes f in cc)

  pub five_held : Five m.mutator → m.fits ≡ true
  five_held k = split m.fits (λ y. y) (λ f. absurd (k.1 (r.deletes f)))

-- ── by the mutator ──
module _ (c : Column) (m : Mutator) (l xs : List (List ℕ)) where
  pub insert_arm : m ≡ Insert → inserted_on c l xs ≡ mutated_on c m l xs
  unfolding mutated_on inserted_on
  insert_arm e = ap (λ k. mutated_on c k l xs) (sym e)

  pub delete_arm : m ≡ Delete → deleted_on c l xs ≡ mutated_on c m l xs
  unfolding mutated_on deleted_on
  delete_arm e = ap (λ k. mutated_on c k l xs) (sym e)

pub arithmetic_arm : (c : Column) (m : Mutator) (l xs : List (List ℕ)) → Five m → arithmetic_on c m (first_int l) xs ≡ mutated_on c m l xs
unfolding mutated_on arithmetic_on
arithmetic_arm c Add l xs k = refl
arithmetic_arm c Subtract l xs k = refl
arithmetic_arm c Multiply l xs k = refl
arithmetic_arm c Divide l xs k = refl
arithmetic_arm c Remainder l xs k = refl
arithmetic_arm c Insert l xs k = absurd (k.0 refl)
arithmetic_arm c Delete l xs k = absurd (k.1 refl)

pub five_suits : (c : Column) (m : Mutator) → Five m → suits c m ≡ is_integer_base c.base
five_suits c Add k = refl
five_suits c Subtract k = refl
five_suits c Multiply k = refl
five_suits c Divide k = refl
five_suits c Remainder k = refl
five_suits c Insert k = absurd (k.0 refl)
five_suits c Delete k = absurd (k.1 refl)
