-- What a request on a store's area is to give, whatever the bytes: what its operations make of the rows, whether they may stay, and then records and answer. Assumes nothing: these are definitions.
use Rattle.std.specs.Prelude.{ℕ, suc, ◌+◌, Bool, true, false, not, ◌&&◌, List, [], ◌∷◌, ◌++◌, map, length, Option, Some, None}
use Rattle.model.specs.Base.{all, every, flat}
use Rattle.model.specs.Schema.{Schema, Database}
use Rattle.model.specs.Rows.{Row, of_table}
use Rattle.model.specs.Faults.{is_fine}
use Rattle.model.specs.Answers.{bracketed, error_text}
use Rattle.model.specs.Commit.{all_found, settled, all_enough, not_over, unique, commit}
use Rattle.model.specs.Transact.{Request, read_request, fresh_ids, names_of, Ran, run_all}
use Rattle.model.specs.Records.{Change, diff, number_from, encode}
use Rattle.model.specs.Mirror.{fresh}
use Rattle.model.specs.Areas.{Store, store_of, MirrorState}

-- no schema at all
abbrev pub no_database : Database
no_database = record { name = []; tables = [] }

-- what an area holds, and a request asks; nothing where it is not in good order or can't be read, which its refusal says
abbrev pub store_or : Option Store → Store
store_or None = record { run = 0; number = 0; database = no_database; rows = [] }
store_or (Some st) = st

abbrev pub mirror_or : Option MirrorState → MirrorState
mirror_or None = record { run = 0; database = no_database; mirror = fresh }
mirror_or (Some m) = m

abbrev pub request_or : Option Request → Request
request_or None = record { name = []; operations = [] }
request_or (Some q) = q

-- "row limits": no table above its maxRows; tables are counted from t
abbrev pub limits_hold : ℕ → Schema → List Row → Bool
limits_hold t [] rows = true
limits_hold t (x ∷ s) rows = not_over x.max_rows (length (of_table t rows)) && limits_hold (suc t) s rows

-- "indexes": no two rows of a table equal in one of its indexes
abbrev pub indexes_hold : ℕ → Schema → List Row → Bool
indexes_hold t [] rows = true
indexes_hold t (x ∷ s) rows = all (λ (index : List ℕ). unique index (of_table t rows)) x.indexes && indexes_hold (suc t) s rows

module _ (area request fresh : List ℕ) where
  abbrev pub held : Store
  held = store_or (store_of area)

  abbrev pub tables : Schema
  tables = held.database.tables

  abbrev pub asks : Request
  asks = request_or (read_request request)

  -- the operations, in order, on the store's rows
  abbrev pub ran : Ran
  ran = run_all tables (names_of (fresh_ids fresh) asks.operations) [] (fresh_ids fresh) held.rows asks.operations

  -- the rows after steps 2 and 3 of the commit
  abbrev pub kept : List Row
  kept = settled tables ran.rows

  -- "every operation succeeds and at the end strong references, weak columns that may not be empty, indexes and row limits hold"
  abbrev pub succeeds : Bool
  succeeds = every (is_fine ran.fault ∷ all_found tables ran.rows ∷ all_enough tables kept ∷ indexes_hold 0 tables kept ∷ limits_hold 0 tables kept ∷ [])

  -- "Otherwise rows and number stay and no record is written"
  abbrev pub rows_laid : List Row
  rows_laid = elim succeeds [ true ↦ kept | false ↦ held.rows ]

  abbrev pub changes_laid : List Change
  changes_laid = elim succeeds [ true ↦ diff tables held.rows kept | false ↦ [] ]

  -- "Numbers run on from 1"
  abbrev pub records_laid : List ℕ
  records_laid = flat (map encode (number_from held.run held.number changes_laid))

  -- "A failed commit adds one such error object after the operations' results"
  abbrev pub failure : List (List ℕ)
  failure = elim (is_fine ran.fault && not (is_fine (commit tables ran.rows).fault)) [ true ↦ error_text (commit tables ran.rows).fault ∷ [] | false ↦ [] ]

  abbrev pub text_laid : List ℕ
  text_laid = bracketed (ran.results ++ failure)

  -- the store after it
  abbrev pub store_laid : Store
  store_laid = record { run = held.run; number = held.number + length changes_laid; database = held.database; rows = rows_laid }
