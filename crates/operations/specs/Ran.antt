-- What an operation on a table does to the working rows and the answer. Assumes nothing: these are definitions.
use Rattle.std.specs.Prelude.{ℕ, ◌+◌, ◌≤◌, ◌<◌, ◌≡◌, Bool, true, false, List, [], map, eqb, ltb, length, get_or, take}
use Rattle.selection.specs.Most.{result_most}
use Rattle.model.specs.Catalog.{column_from, packed_tables, table_count}
use Rattle.model.specs.declared.Fault.{Fault}
use Rattle.model.specs.declared.Fault.TheVariants.{Fine, Syntax, Resources}
use Rattle.model.specs.Limits.{most_columns, most_rows, most_operations}
use Rattle.model.specs.Base.{ascii, distinct}
use Rattle.model.specs.Json.{Named}
use Rattle.inner.specs.Positions.{well_at, tree_at}
use Rattle.model.specs.Members.{members_in}
use Rattle.model.specs.Schema.{Schema, columns_of}
use Rattle.model.specs.SchemaText.{only}
use Rattle.model.specs.Rows.{Row}
use Rattle.model.specs.Faults.{is_fine, earlier, check, Judged}
use Rattle.model.specs.Written.{Names}
use Rattle.model.specs.Conditions.{Test}
use Rattle.model.specs.Answers.{count_text, insert_text}
use Rattle.model.specs.Operations as Model
use Rattle.inner.specs.Working.{working, Tidy}
use Rattle.catalog.specs.Accepted.{Accepted}
use Rattle.catalog.specs.Entries.{columns_at}
use Rattle.members.specs.Fields.{most_words, Slots}
use Rattle.json_writer.specs.Put.{Put}
use Rattle.uuids.specs.Named.{names_at, Running}
use Rattle.fresh.specs.Fresh.{fresh_at}
use Rattle.marks.specs.Marks.{MarkedRows}
use Rattle.operations.specs.Clauses.{Earlier}
use Rattle.operations.specs.declared.on_table.Call.{Call}
use Rattle.operations.specs.declared.on_table.Done.{Done}
use Rattle.operations.specs.declared.on_table.Matched.{Matched}
use Rattle.operations.specs.declared.on_table.Operation.{Operation}
use Rattle.operations.specs.declared.on_table.Operation.TheVariants.{Insert, Select, Update, Mutate, Delete, Comment, Abort, Unknown}
use Rattle.operations.specs.declared.on_table.Reply.{Reply}
use Rattle.operations.specs.declared.on_table.Reply.TheVariants.{Empty, Count, Id, Rows}

-- working rows are enough for what k operations may make of n rows, each of which adds one at most
abbrev pub Room : ℕ → ℕ → List (List (List ℕ)) → Type 0
Room n k rows = (m : ℕ) → m ≤ n + k → m ≤ most_rows → m ≤ length rows

-- what an operation on a table begins with: a request that is run, the operation's place and its number, a table of an accepted schema, and rows
pub record Ready (text ends : List ℕ) (names : List ℕ) (schema : List (List ℕ)) (call : Call) (rows : List (List (List ℕ))) : Type 0 where
  pub running : Running text ends names
  pub well : well_at text call.at ≡ true
  pub early : call.number < most_operations
  pub accepted : Accepted schema
  pub here : call.table < table_count schema
  pub count : call.count ≤ most_rows
  pub room : Room call.count 1 rows

-- ── what an operation answers ──
-- by cases the model's text, where `id` is the operation's own fresh id, beside the answer before and after: rows are in it, from `at` on, and nothing else is written
unfoldable pub Answers : ℕ → ℕ → List ℕ → List ℕ → Reply → List ℕ → Type 0
Answers id at before after Empty t = (t ≡ ascii "{}") × (after ≡ before)
Answers id at before after (Count k) t = (t ≡ count_text k) × (after ≡ before)
Answers id at before after Id t = (t ≡ insert_text id) × (after ≡ before)
Answers id at before after (Rows e) t = Put result_most before at t e after

-- whether an operation that answers so may have changed a row: an insert has, and one of which rows match
abbrev pub may_change : Reply → Bool
may_change r = elim r [ Empty ↦ false | Count k ↦ ltb 0 k | Id ↦ true | Rows e ↦ false ]

-- ── what it does ──
-- where d is what the model says of it: its fault, and where that is Fine the rows and the reply, which tells where the rows are as they were; rows that were tidy are tidy after it, whatever its fault is
pub record Ran (s : Schema) (d : Model.Done) (replies : Reply → List ℕ → Type 0) (n : ℕ) (entry exit : List (List (List ℕ))) (r : Done) : Type 0 where
  pub fault : r.fault ≡ d.fault
  pub few : r.count ≤ most_rows
  pub grown : r.count ≤ n + 1
  pub rows : is_fine r.fault ≡ true → working s r.count exit ≡ d.rows
  pub reply : is_fine r.fault ≡ true → replies r.reply d.answer
  pub same : is_fine r.fault ≡ true → may_change r.reply ≡ false → d.rows ≡ working s n entry
  pub still : is_fine r.fault ≡ false → r.count ≡ n
  pub tidy : Tidy s (take n entry) → Tidy s (take r.count exit)

-- what the model's operation of a name does, on table t where it is on one
unfoldable pub performed : Operation → Schema → Names → List (List ℕ) → ℕ → List Row → List Named → ℕ → Model.Done
performed Insert s names given id rows ms t = Model.run_insert names given id rows ms t (columns_of s t)
performed Select s names given id rows ms t = Model.run_select names rows ms t (columns_of s t)
performed Update s names given id rows ms t = Model.run_update names rows ms t (columns_of s t)
performed Mutate s names given id rows ms t = Model.run_mutate names rows ms t (columns_of s t)
performed Delete s names given id rows ms t = Model.run_delete names rows ms t (columns_of s t)
performed Comment s names given id rows ms t = Model.run_comment rows ms
performed Abort s names given id rows ms t = Model.run_abort rows ms
performed Unknown s names given id rows ms t = Model.failed Syntax rows

-- the members of a call, and what the model does by it, as the operation k, where `given` are the uuid-names given before it
abbrev pub members_of : List ℕ → Call → List Named
members_of text call = members_in (tree_at text call.at)

abbrev pub outcome : Operation → List (List ℕ) → List ℕ → List ℕ → List (List ℕ) → Call → List (List (List ℕ)) → Model.Done
outcome k given text names schema call rows =
    performed k (packed_tables schema) (names_at text names) given (fresh_at names call.number) (working (packed_tables schema) call.count rows) (members_of text call) call.table

-- only a mutate may leave other rows after a fault
unfoldable pub is_mutate : Operation → Bool
is_mutate k = elim k [ Insert ↦ false | Select ↦ false | Update ↦ false | Mutate ↦ true | Delete ↦ false | Comment ↦ false | Abort ↦ false | Unknown ↦ false ]

-- what a call does as the operation k: what the model does by it; after a fault the answer is what it was, and so are the rows
pub record Effect (k : Operation) (text names : List ℕ) (schema : List (List ℕ)) (call : Call) (entry exit : List (List (List ℕ))) (at : ℕ) (before after : List ℕ) (r : Done) : Type 0 where
  pub does : (given : List (List ℕ)) → Earlier text names call.number given
      → Ran (packed_tables schema) (outcome k given text names schema call entry) (Answers (fresh_at names call.number) at before after) call.count entry exit r
  pub rows : is_mutate k ≡ false → is_fine r.fault ≡ false → exit ≡ entry
  pub answer : is_fine r.fault ≡ false → after ≡ before

-- the same of one that writes nothing to the answer, whatever that is
abbrev pub Silent : Operation → List ℕ → List ℕ → List (List ℕ) → Call → List (List (List ℕ)) → List (List (List ℕ)) → Done → Type 0
Silent k text names schema call entry exit r = (at : ℕ) (out : List ℕ) → Effect k text names schema call entry exit at out out r

-- ── the rows that match ──
-- the cells of a table's columns
pub record TableColumns (schema : List (List ℕ)) (table : ℕ) (columns : List (List ℕ)) : Type 0 where
  pub cells : columns ≡ columns_at schema table
  pub same : columns_of (packed_tables schema) table ≡ map column_from columns
  pub few : length columns ≤ most_columns

-- distinct words, of which the third is "where"
pub record Words (ws : List (List ℕ)) : Type 0 where
  pub apart : distinct ws ≡ true
  pub few : length ws ≤ most_words
  pub long : 2 < length ws
  pub third : get_or ws 2 [] ≡ ascii "where"

-- the conditions of a call
unfoldable pub tests_of : List ℕ → List ℕ → List (List ℕ) → Call → Judged (List Test)
tests_of text names schema call = Model.read_where (names_at text names) (columns_of (packed_tables schema) call.table) (members_of text call)

-- what they come to, where the call's members may have the words ws: the places of its members, the fault of other members and of the conditions, and where there is none marks of the rows that match
pub record Matching (text names : List ℕ) (schema ws : List (List ℕ)) (call : Call) (rows : List (List (List ℕ))) (r : Matched) : Type 0 where
  pub slots : Slots text ws (members_of text call) r.slots
  pub fault : r.fault ≡ earlier (check (only ws (members_of text call)) Syntax Fine) (tests_of text names schema call).fault
  pub marks : is_fine r.fault ≡ true
      → MarkedRows (columns_of (packed_tables schema) call.table) (tests_of text names schema call).got call.table (length (take call.count rows)) (take call.count rows) r.marks

-- ── faults ──
-- a member that the operation does not have is a syntax error: slot 9 is 0 where there is none
unfoldable pub listed_fault : ℕ → Fault
listed_fault p = check (eqb p 0) Syntax Fine

-- "rows .. 32": one more is one too many
unfoldable pub room_fault : ℕ → Fault
room_fault n = check (ltb n most_rows) Resources Fine

-- a count, or 0 where there is a fault
unfoldable pub count_unless : Fault → ℕ → ℕ
count_unless f n = elim (is_fine f) [ true ↦ n | false ↦ 0 ]
