-- A transact on a store's state: its refusals in order, and what it gives where it has none. Assumes nothing: these are definitions.
use Rattle.std.specs.Prelude.{ℕ, ◌+◌, true, false, List, [], leb, length, Option, Some, None}
use Rattle.model.specs.Octets.{eq_bytes}
use Rattle.model.specs.Limits.{last_number}
use Rattle.model.specs.Schema.{Schema, Database}
use Rattle.model.specs.Rows.{Row}
use Rattle.model.specs.Transact.{Request, read_request, fresh_ids, ids_good, Transaction, transact_rows}
use Rattle.model.specs.Records.{Change, diff}
use Rattle.model.specs.declared.Status.{Status}
use Rattle.model.specs.declared.Status.TheVariants.{Accepted, BadRequest, OtherDatabase, BadFreshIds, AnswerTooLong, NumbersSpent}

-- what a transact gives: its status, the rows after it, the changes it writes, the answer's text
pub record Reply : Type 0 where
  pub status : Status
  pub rows : List Row
  pub changes : List Change
  pub text : List ℕ

abbrev pub refused : Status → List Row → Reply
refused a rows = record { status = a; rows = rows; changes = []; text = [] }

-- "Otherwise rows and number stay and no record is written"
abbrev pub changes_of : Schema → List Row → Transaction → List Change
changes_of s rows t = elim t.commits [ true ↦ diff s rows t.rows | false ↦ [] ]

-- refusal 10: "the commit's records would pass the last record number"
abbrev pub numbered : ℕ → List Row → Transaction → List Change → Reply
numbered number rows t es =
    elim (leb (number + length es) last_number) [
      | true ↦ record { status = Accepted; rows = t.rows; changes = es; text = t.text }
      | false ↦ refused NumbersSpent rows
    ]

-- refusal 7: "the full result text is longer than the answer buffer"
abbrev pub concluded : Schema → ℕ → List Row → ℕ → Transaction → Reply
concluded s number rows room t =
    elim (leb (length t.text) room) [ true ↦ numbered number rows t (changes_of s rows t) | false ↦ refused AnswerTooLong rows ]

-- refusal 6, refusal 5
abbrev pub freshly : Schema → ℕ → List Row → List ℕ → ℕ → Request → Reply
freshly s number rows ids room q =
    elim (ids_good ids rows) [ true ↦ concluded s number rows room (transact_rows s ids rows q.operations) | false ↦ refused BadFreshIds rows ]

abbrev pub named : Database → ℕ → List Row → List ℕ → ℕ → Request → Reply
named d number rows ids room q = elim (eq_bytes q.name d.name) [ true ↦ freshly d.tables number rows ids room q | false ↦ refused OtherDatabase rows ]

-- refusal 4; a store at `number` with these rows, an answer buffer of `room` bytes
abbrev pub reply_to : Database → ℕ → List Row → List ℕ → ℕ → Option Request → Reply
reply_to d number rows ids room None = refused BadRequest rows
reply_to d number rows ids room (Some q) = named d number rows ids room q

abbrev pub reply : Database → ℕ → List Row → List ℕ → List ℕ → ℕ → Reply
reply d number rows request fresh room = reply_to d number rows (fresh_ids fresh) room (read_request request)
