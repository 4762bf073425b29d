-- One mutation on one column of a row in cells. Assumes nothing: these are definitions.
use Rattle.std.specs.Prelude.{ℕ, ◌≤◌, ◌<◌, ◌≡◌, true, false, not, ◌&&◌, List, ◌++◌, map, ℤ, length, take, drop}
use Rattle.model.specs.Limits.{most_columns}
use Rattle.model.specs.Base.{all}
use Rattle.model.specs.Schema.{Column, Schema, columns_of}
use Rattle.model.specs.Value.{elements, int_atom, value_of}
use Rattle.model.specs.Rows.{set_column}
use Rattle.model.specs.Areas.{row_from}
use Rattle.inner.specs.Working.{table_in, value_in, TidyRow}
use Rattle.model.specs.Faults.{is_fine, check, Judged}
use Rattle.model.specs.Mutations.{divides, is_zero, in64, is_empty, results, arithmetic, inserted, deleted, mutated}
use Rattle.model.specs.declared.Fault.{Fault}
use Rattle.model.specs.declared.Fault.TheVariants.{Fine, Domain, Range}
use Rattle.model.specs.declared.Mutator.{Mutator}

-- "each step judges domain, range .. in that order": the two that need no column
unfoldable pub exact_fault : Mutator → ℤ → List (List ℕ) → Fault
exact_fault m b xs = check (not (divides m && is_zero b && not (is_empty xs))) Domain (check (all in64 (results m b xs)) Range Fine)

-- the atoms of the results, in the order of the elements
unfoldable pub result_atoms : Mutator → ℤ → List (List ℕ) → List (List ℕ)
result_atoms m b xs = map int_atom (results m b xs)

-- results put in front of what was there
pub record Calculated (m : Mutator) (b : ℤ) (xs : List (List ℕ)) (r : Fault) (before after : List (List ℕ)) : Type 0 where
  pub fault : r ≡ exact_fault m b xs
  pub atoms : is_fine r ≡ true → after ≡ result_atoms m b xs ++ drop (length xs) before

-- the elements of column c
unfoldable pub elements_of : ℕ → List (List ℕ) → List (List ℕ)
elements_of c cells = elements (value_in c cells)

-- ── a mutation on elements, by its kind ──
unfoldable pub arithmetic_on : Column → Mutator → ℤ → List (List ℕ) → Judged (List (List ℕ))
arithmetic_on c m b xs = arithmetic c m b xs

unfoldable pub inserted_on : Column → List (List ℕ) → List (List ℕ) → Judged (List (List ℕ))
inserted_on c l xs = inserted c l xs

unfoldable pub deleted_on : Column → List (List ℕ) → List (List ℕ) → Judged (List (List ℕ))
deleted_on c l xs = deleted c l xs

unfoldable pub mutated_on : Column → Mutator → List (List ℕ) → List (List ℕ) → Judged (List (List ℕ))
mutated_on c m l xs = mutated c m l xs

-- the n results of arithmetic without a fault, put in front
pub record Results (j : Judged (List (List ℕ))) (n : ℕ) (l : List (List ℕ)) (r : Fault) (after : List (List ℕ)) : Type 0 where
  pub fault : r ≡ j.fault
  pub atoms : is_fine r ≡ true → take n after ≡ l

-- the elements that are left, in four places: so many, and blanks
pub record Kept (l : List (List ℕ)) (n : ℕ) (atoms : List (List ℕ)) : Type 0 where
  pub size : n ≡ length l
  pub cells : atoms ≡ (value_of l).atoms

-- column c of a row after a mutation on it; a row with a fault is left as it was
pub record Stepped (j : Judged (List (List ℕ))) (c : ℕ) (r : Fault) (entry exit : List (List ℕ)) : Type 0 where
  pub fault : r ≡ j.fault
  pub row : is_fine r ≡ true → (s : Schema) → row_from s exit ≡ set_column c (value_of j.got) (row_from s entry)
  pub unchanged : is_fine r ≡ false → exit ≡ entry
  pub tidy : (s : Schema) → c < length (columns_of s (table_in entry)) → length (columns_of s (table_in entry)) ≤ most_columns → TidyRow s entry → TidyRow s exit
