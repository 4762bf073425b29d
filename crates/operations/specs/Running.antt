-- A request's operations run in order. Assumes nothing: these are definitions.
use Rattle.std.specs.Prelude.{ℕ, ◌+◌, ◌*◌, ◌≤◌, ◌≡◌, true, false, List, [], ◌∷◌, ◌++◌, map, length, take, drop, Option}
use Rattle.json_writer.specs.Most.{null_most, error_most}
use Rattle.model.specs.Limits.{most_rows, most_operations}
use Rattle.model.specs.declared.Fault.{Fault}
use Rattle.model.specs.Catalog.{packed_tables}
use Rattle.model.specs.Schema.{Schema}
use Rattle.model.specs.Json.{Json}
use Rattle.inner.specs.Positions.{items_from, items_fine}
use Rattle.model.specs.Rows.{Row}
use Rattle.model.specs.Faults.{is_fine}
use Rattle.inner.specs.Working.{working, Tidy}
use Rattle.model.specs.Transact as model
use Rattle.model.specs.Transact.{fresh_ids}
use Rattle.json_writer.specs.Put.{Put}
use Rattle.json_writer.specs.Texts.{null_text, joined, error_result}
use Rattle.uuids.specs.Named.{operations_at, names_at, place_in, place_named}
use Rattle.operations.specs.declared.Finish.{Finish}

-- the operations of a request: they can be read, are few, and the table of uuid-names is theirs
pub record Listed (text : List ℕ) (ops : Option ℕ) (names : List ℕ) : Type 0 where
  pub fine : items_fine text ops ≡ true
  pub few : length (items_from text ops) ≤ most_operations
  pub places : (w : List ℕ) → place_in text names w ≡ place_named 0 w (operations_at text ops)

-- the operations from the place g on, by the names that were given before them, where i came before
unfoldable pub run_from : Schema → List ℕ → List ℕ → List (List ℕ) → ℕ → List Row → Option ℕ → model.Ran
run_from s text names given i rows g = model.run_all s (names_at text names) given (drop i (fresh_ids names)) rows (operations_at text g)

-- all of them
unfoldable pub run_whole : Schema → List ℕ → Option ℕ → List ℕ → List Row → model.Ran
run_whole s text ops names rows = model.run_all s (names_at text names) [] (fresh_ids names) rows (operations_at text ops)

-- how many bytes nulls, an error before them and a whole answer have at most; the last is above what as many of the longest results have
abbrev pub nulls_most : ℕ
nulls_most = most_operations * (1 + null_most)

abbrev pub stop_most : ℕ
stop_most = error_most + nulls_most

abbrev pub answer_most : ℕ
answer_most = 4000000

-- nulls for the operations from a place on
unfoldable pub nulls_from : List ℕ → Option ℕ → List (List ℕ)
nulls_from text g = map (λ (j : Json). null_text) (items_from text g)

-- what a fault leaves: it, nothing to commit, how many rows there were, and its error with the nulls behind it in the answer
pub record Stopped (text : List ℕ) (g : Option ℕ) (f : Fault) (n at : ℕ) (before after : List ℕ) (r : Finish) : Type 0 where
  pub fault : r.fault ≡ f
  pub idle : r.pending ≡ false
  pub count : r.count ≡ n
  pub answer : Put stop_most before at (error_result f ++ joined false (nulls_from text g)) r.at after

-- what is left of the rows, that without a fault they are as they were where nothing is to be committed, and the answer up to its closing bracket; after a fault the rows are free, but tidy where they were
pub record RunAll (s : Schema) (d : model.Ran) (n : ℕ) (entry exit : List (List (List ℕ))) (before after : List ℕ) (r : Finish) : Type 0 where
  pub fault : r.fault ≡ d.fault
  pub fine : r.pending ≡ true → is_fine r.fault ≡ true
  pub same : r.pending ≡ false → is_fine r.fault ≡ true → d.rows ≡ working s n entry
  pub few : r.count ≤ most_rows
  pub long : r.count ≤ length exit
  pub rows : is_fine r.fault ≡ true → working s r.count exit ≡ d.rows
  pub tidy : is_fine r.fault ≡ true → Tidy s (take n entry) → Tidy s (take r.count exit)
  pub free : is_fine r.fault ≡ false → Tidy s (take n entry) → Tidy s (take r.count exit)
  pub answer : Put answer_most before 0 (91 ∷ joined true d.results) r.at after

-- the same of all operations of a request, on the first n rows
abbrev pub AllDone : List ℕ → Option ℕ → List ℕ → List (List ℕ) → ℕ → List (List (List ℕ)) → List (List (List ℕ)) → List ℕ → List ℕ → Finish → Type 0
AllDone text ops names schema n entry exit before after r = RunAll (packed_tables schema) (run_whole (packed_tables schema) text ops names (working (packed_tables schema) n entry)) n entry exit before after r
