-- A transact on a store's state, part by part. Assumes nothing: these are definitions.
use Rattle.std.specs.Prelude.{ℕ, ◌+◌, ◌≤◌, ◌<◌, ◌≡◌, Bool, true, false, List, [], ◌∷◌, ◌++◌, map, length, take, Option}
use Rattle.model.specs.declared.Status.{Status}
use Rattle.model.specs.declared.Status.TheVariants.{Accepted, AnswerTooLong, NumbersSpent}
use Rattle.model.specs.declared.Fault.{Fault}
use Rattle.model.specs.Octets.{filled}
use Rattle.model.specs.Limits.{last_number, most_rows, most_operations, most_request_bytes, fresh_bytes}
use Rattle.model.specs.Base.{all, flat}
use Rattle.inner.specs.Positions.{Says, items_from, items_fine}
use Rattle.model.specs.Faults.{Judged, is_fine}
use Rattle.model.specs.Schema.{Schema}
use Rattle.model.specs.Rows.{Row}
use Rattle.model.specs.Commit.{commit, lawful}
use Rattle.model.specs.Catalog.{packed_tables, database_from}
use Rattle.inner.specs.Working.{working, Tidy, Ordered}
use Rattle.model.specs.Records.{Change, diff, number_from, encode}
use Rattle.model.specs.Refusals.{is_refusal}
use Rattle.model.specs.Transact as model
use Rattle.model.specs.Transact.{fresh_ids, ids_good, names_of, run_all, transact_rows}
use Rattle.model.proofs.RunKeeps.{operation_good, Sound}
use Rattle.model.specs.Calls.{zeroed}
use Rattle.model.specs.Replies as replies
use Rattle.model.specs.Replies.{refused, changes_of, concluded, reply}
use Rattle.area.specs.Layout.{row_count, rows_at}
use Rattle.area.specs.Writing.{number_in}
use Rattle.json_writer.specs.Put.{Put}
use Rattle.json_writer.specs.Texts.{comma_text, error_result}
use Rattle.uuids.specs.Named.{operations_at}
use Rattle.store.specs.GoodOrder.{run_in}
use Rattle.store.specs.declared.reply.Outcome.{Outcome}
use Rattle.store.specs.declared.reply.Question.{Question}
use Rattle.store.specs.declared.reply.Effect.{Effect}

-- ── the model's, by names that stay shut ──
unfoldable pub committed : Schema → List Row → Judged (List Row)
committed s rows = commit s rows

-- the operations of a text run on rows, and the commit
unfoldable pub transact_on : Schema → List ℕ → Option ℕ → List ℕ → List Row → model.Transaction
transact_on s text ops fresh rows = transact_rows s (fresh_ids fresh) rows (operations_at text ops)

-- the operations alone
unfoldable pub run_on : Schema → List ℕ → Option ℕ → List ℕ → List Row → model.Ran
run_on s text ops fresh rows = run_all s (names_of (fresh_ids fresh) (operations_at text ops)) [] (fresh_ids fresh) rows (operations_at text ops)

-- a request that can be run: what the table of ends says is true, the operations can be read, and both it and the fresh ids have their lengths
pub record Readable (s ends : List ℕ) (ops : Option ℕ) (fresh : List ℕ) : Type 0 where
  pub says : Says s ends
  pub fine : items_fine s ops ≡ true
  pub short : length s ≤ most_request_bytes
  pub ids : length fresh ≡ fresh_bytes

-- refusals 7 and 10, and what is given where neither applies
unfoldable pub concluded_of : Schema → ℕ → List Row → ℕ → model.Transaction → replies.Reply
concluded_of s number rows room t = concluded s number rows room t

-- a request's text on the first n rows of a store, its schema in cells
unfoldable pub reply_on : List (List ℕ) → ℕ → ℕ → List (List (List ℕ)) → List ℕ → List ℕ → ℕ → replies.Reply
reply_on cells number n before request fresh room = reply (database_from cells) number (working (packed_tables cells) n before) request fresh room

-- ── what is known of a request that is run ──
-- the rows are in order, their values meet their types and every commit rule holds, the fresh ids may be given (refusal 6), and the operations' strings are good
pub record Sure (s : Schema) (text : List ℕ) (ops : Option ℕ) (fresh : List ℕ) (rows : List Row) : Type 0 where
  pub sound : Sound s rows
  pub lawful : lawful s rows ≡ true
  pub ids : ids_good (fresh_ids fresh) rows ≡ true
  pub operations : all operation_good (operations_at text ops) ≡ true

-- ── what the code's parts promise ──
-- "A failed commit adds one such error object after the operations' results"; and the closing bracket
unfoldable pub closing : Fault → Bool → List ℕ
closing f first = elim (is_fine f) [ true ↦ 93 ∷ [] | false ↦ comma_text first ++ (error_result f ++ 93 ∷ []) ]

-- a commit, and the end of the answer's text; where it does not commit the working rows are free, as many as before
pub record Closed (s : Schema) (j : Judged (List Row)) (n : ℕ) (entry exit : List (List (List ℕ))) (first : Bool) (at : ℕ) (before after : List ℕ) (r : Outcome) : Type 0 where
  pub commits : r.commits ≡ is_fine j.fault
  pub rows : r.commits ≡ true → working s r.count exit ≡ j.got
  pub few : r.count ≤ n
  pub tidy : r.commits ≡ true → Tidy s (take n entry) → Tidy s (take r.count exit)
  pub ordered : r.commits ≡ true → Ordered r.count exit
  pub room : length exit ≡ length entry
  pub text : Put 45 before at (closing j.fault first) r.at after

-- a transaction, and the whole of the answer's text; where it commits no change there is no record, and the working rows are free, as many as before
pub record Ended (s : Schema) (t : model.Transaction) (n : ℕ) (entry exit : List (List (List ℕ))) (before after : List ℕ) (r : Outcome) : Type 0 where
  pub commits : r.commits ≡ true → t.commits ≡ true
  pub rows : r.commits ≡ true → working s r.count exit ≡ t.rows
  pub stays : r.commits ≡ false → t.rows ≡ working s n entry
  pub none : r.commits ≡ false → changes_of s (working s n entry) t ≡ []
  pub few : r.count ≤ most_rows
  pub tidy : r.commits ≡ true → Tidy s (take n entry) → Tidy s (take r.count exit)
  pub ordered : r.commits ≡ true → Ordered r.count exit
  pub room : length exit ≡ length entry
  pub text : Put 4000045 before 0 t.text r.at after

-- the same of a schema's entries: of the first n rows at a commit, and of a request's text
abbrev pub ClosedOn : List (List ℕ) → ℕ → List (List (List ℕ)) → List (List (List ℕ)) → Bool → ℕ → List ℕ → List ℕ → Outcome → Type 0
ClosedOn schema n entry exit first at before after r = Closed (packed_tables schema) (committed (packed_tables schema) (working (packed_tables schema) n entry)) n entry exit first at before after r

abbrev pub EndedOn : List (List ℕ) → List ℕ → Option ℕ → List ℕ → ℕ → List (List (List ℕ)) → List (List (List ℕ)) → List ℕ → List ℕ → Outcome → Type 0
EndedOn schema text ops fresh n entry exit before after r = Ended (packed_tables schema) (transact_on (packed_tables schema) text ops fresh (working (packed_tables schema) n entry)) n entry exit before after r

-- a request, of which `count` operations were read: whether it is run, and else the refusal (4, 5 or 6)
pub record Asked (cells : List (List ℕ)) (n : ℕ) (before : List (List (List ℕ))) (request fresh ends : List ℕ) (count : ℕ) (r : Question) : Type 0 where
  pub refuses : r.runs ≡ false → is_refusal r.status ≡ true
  pub refused : r.runs ≡ false → (number room : ℕ) → reply_on cells number n before request fresh room ≡ refused r.status (working (packed_tables cells) n before)
  pub concluded : r.runs ≡ true → (number room : ℕ)
      → reply_on cells number n before request fresh room ≡ concluded_of (packed_tables cells) number (working (packed_tables cells) n before) room (transact_on (packed_tables cells) request r.ops fresh (working (packed_tables cells) n before))
  pub running : r.runs ≡ true → Readable request ends r.ops fresh
  pub few : r.runs ≡ true → length (items_from request r.ops) ≤ most_operations
  pub counted : r.runs ≡ true → count ≡ length (items_from request r.ops)
  pub ids : r.runs ≡ true → ids_good (fresh_ids fresh) (working (packed_tables cells) n before) ≡ true
  pub operations : r.runs ≡ true → all operation_good (operations_at request r.ops) ≡ true

-- "zeroes every other buffer written to"
pub record Refused (why : Status) (records_in recordsOut text_in textOut : List ℕ) (r : Status) : Type 0 where
  pub is : r ≡ why
  pub records : recordsOut ≡ zeroed records_in
  pub text : textOut ≡ zeroed text_in

-- a request that is refused: nothing is to be written
abbrev pub no_effect : Status → Effect
no_effect why = record { status = why; commits = false; count = 0; changes = 0 }

-- what changes from the rows that an area has to the first count of others
unfoldable pub changes_from : Schema → List ℕ → List (List (List ℕ)) → ℕ → List Change
changes_from s a rows count = diff s (working s (row_count a) (rows_at (row_count a) a)) (working s count rows)

-- the records of a commit, or refusal 10
pub record GivenOut (s : Schema) (a : List ℕ) (rows : List (List (List ℕ))) (count : ℕ) (records_in recordsOut text_in textOut : List ℕ) (r : Effect) : Type 0 where
  pub spent : last_number < number_in a + length (changes_from s a rows count) → (r ≡ no_effect NumbersSpent) × (recordsOut ≡ zeroed records_in) × (textOut ≡ zeroed text_in)
  pub given : number_in a + length (changes_from s a rows count) ≤ last_number
      → (r ≡ record { status = Accepted; commits = true; count = count; changes = length (changes_from s a rows count) })
      × (recordsOut ≡ filled (length records_in) (flat (map encode (number_from (run_in a) (number_in a) (changes_from s a rows count)))))
      × (textOut ≡ text_in)

-- what is left of a transaction: refusal 7 where its answer is longer than the buffer, and else its records, where it commits a change
pub record Concluded (s : Schema) (a : List ℕ) (rows : List (List (List ℕ))) (o : Outcome) (records_in recordsOut text_in textOut : List ℕ) (r : Effect) : Type 0 where
  pub long : length text_in < o.at → (r ≡ no_effect AnswerTooLong) × (recordsOut ≡ zeroed records_in) × (textOut ≡ zeroed text_in)
  pub stays : o.at ≤ length text_in → o.commits ≡ false → (r ≡ record { status = Accepted; commits = false; count = o.count; changes = 0 }) × (recordsOut ≡ zeroed records_in) × (textOut ≡ text_in)
  pub given : o.at ≤ length text_in → o.commits ≡ true → GivenOut s a rows o.count records_in recordsOut text_in textOut r

-- so many rows and operations together have few working rows
abbrev pub few_rows : ℕ
few_rows = 8
