-- Rows in cells after mutations. Assumes nothing: these are definitions.
use Rattle.std.specs.Prelude.{ℕ, ◌<◌, ◌≡◌, Bool, true, false, List, [], ◌⊎◌, length, get_or, take, drop}
use Rattle.model.specs.Schema.{Column, Schema, columns_of}
use Rattle.model.specs.Faults.{is_fine, Judged}
use Rattle.model.specs.Areas.{row_from}
use Rattle.inner.specs.Working.{working, table_in, TidyRow, Tidy}
use Rattle.model.specs.Conditions.{Test, matches}
use Rattle.model.specs.Mutations.{Mutation, mutate_once}
use Rattle.model.specs.Operations.{mutate_rows}
use Rattle.model.specs.declared.Fault.{Fault}
use Rattle.model.specs.declared.Fault.TheVariants.{Fine}
use Rattle.marks.specs.Marks.{MarkedRows}
use Rattle.mutations.specs.declared.Stop.{Stop}

-- a row of a table with the columns cs after one mutation; where that has a fault, the row is left as it was
pub record RowStepped (cs : List Column) (m : Mutation) (r : Fault) (entry exit : List (List ℕ)) : Type 0 where
  pub fault : (s : Schema) → columns_of s (table_in entry) ≡ cs → r ≡ (mutate_once m (row_from s entry)).fault
  pub row : (s : Schema) → columns_of s (table_in entry) ≡ cs → is_fine r ≡ true → row_from s exit ≡ (mutate_once m (row_from s entry)).got
  pub unchanged : is_fine r ≡ false → exit ≡ entry
  pub tidy : (s : Schema) → columns_of s (table_in entry) ≡ cs → TidyRow s entry → TidyRow s exit

-- rows of which the marked ones before i are after one mutation, without a fault, and the others as they were
pub record SteppedTo (cs : List Column) (m : Mutation) (marks : List Bool) (i : ℕ) (entry exit : List (List (List ℕ))) : Type 0 where
  pub size : length exit ≡ length entry
  pub done : (k : ℕ) → k < i → get_or marks k false ≡ true → RowStepped cs m Fine (get_or entry k []) (get_or exit k [])
  pub still : (k : ℕ) → (k < i → get_or marks k false ≡ false) → get_or exit k [] ≡ get_or entry k []

-- a marked row on which the mutation has a fault
pub record FailsAt (cs : List Column) (m : Mutation) (marks : List Bool) (rows : List (List (List ℕ))) (stop : Stop) : Type 0 where
  pub bad : is_fine stop.fault ≡ false
  pub before : stop.end < length marks
  pub mark : get_or marks stop.end false ≡ true
  pub step : RowStepped cs m stop.fault (get_or rows stop.end []) (get_or rows stop.end [])

-- the marked rows after one mutation, up to the first on which it has a fault
pub record MarkedStepped (cs : List Column) (m : Mutation) (marks : List Bool) (stop : Stop) (entry exit : List (List (List ℕ))) : Type 0 where
  pub rows : SteppedTo cs m marks stop.end entry exit
  pub stops : (stop ≡ record { fault = Fine; end = length marks }) ⊎ FailsAt cs m marks entry stop

-- the first n rows, of which those of a table that meet all tests are mutated, where ms is what is read: its fault, or else the first of a row; after a fault nothing counts but that the rows are in order
pub record Mutated (cs : List Column) (table : ℕ) (tests : List Test) (ms : Judged (List Mutation)) (n : ℕ) (r : Fault) (entry exit : List (List (List ℕ))) : Type 0 where
  pub fault : (s : Schema) → columns_of s table ≡ cs → r ≡ elim (is_fine ms.fault) [ true ↦ (mutate_rows (matches table tests) ms.got (working s n entry)).fault | false ↦ ms.fault ]
  pub rows : (s : Schema) → columns_of s table ≡ cs → is_fine r ≡ true → working s n exit ≡ (mutate_rows (matches table tests) ms.got (working s n entry)).got
  pub tidy : (s : Schema) → columns_of s table ≡ cs → Tidy s (take n entry) → Tidy s (take n exit)

-- the same by marks, for every table and all tests that they are of; the rows behind the first n stay
pub record MarkedMutated (cs : List Column) (ms : Judged (List Mutation)) (n : ℕ) (marks : List Bool) (r : Fault) (entry exit : List (List (List ℕ))) : Type 0 where
  pub behind : drop n exit ≡ drop n entry
  pub each : (tests : List Test) (table : ℕ) → MarkedRows cs tests table n entry marks → Mutated cs table tests ms n r entry exit
