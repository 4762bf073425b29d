-- A transact on a store's rows: what stays where it does not commit, and a reply as a refusal that leaves everything or as what the rules make. Assumes nothing.
use Rattle.std.specs.Prelude.{Option, Some, None}
use mathlib.Core.Path.{◌≡◌, refl, sym, ◌∙◌}
use mathlib.Core.Bool.{true, false}
use mathlib.Core.List.{List, []}
use Prim.Native.Nat.{ℕ, ◌+◌}
use lib.Dec.{leb}
use lib.ListN.{length}
use Rattle.model.specs.Octets.{eq_bytes}
use Rattle.model.specs.Limits.{last_number}
use Rattle.model.specs.Schema.{Schema, Database}
use Rattle.model.specs.Rows.{Row}
use Rattle.model.specs.Faults.{is_fine}
use Rattle.model.specs.Commit.{commit}
use Rattle.model.specs.Transact.{Request, read_request, fresh_ids, ids_good, names_of, Ran, run_all, Transaction, at_commit, transact_rows}
use Rattle.model.specs.Refusals.{is_refusal}
use Rattle.model.specs.Replies.{Reply, reply, reply_to, named, freshly, concluded, changes_of, refused}
use Rattle.model.specs.Replies as Replies
use Rattle.model.specs.Records.{diff}
use Rattle.model.specs.Laid.{request_or}
use Rattle.model.specs.declared.Status.{Status}
use Rattle.model.proofs.Tests.{split, clash}

abbrev ran_of : Schema → List ℕ → List Row → Request → Ran
ran_of s ids rows q = run_all s (names_of ids q.operations) [] ids rows q.operations

-- ── what stays where it does not ──
at_commit_stays : (s : Schema) (before : List Row) (r : Ran) → (at_commit s before r).commits ≡ false → (at_commit s before r).rows ≡ before
at_commit_stays s before r = split (is_fine (commit s r.rows).fault)
    (λ e. rw (at_commit, e) (λ h. absurd (clash true refl h)))
    (λ e. rw (at_commit, e) (λ h. refl))

pub transact_stays : (s : Schema) (ids : List ℕ) (rows : List Row) (q : Request) → (transact_rows s ids rows q.operations).commits ≡ false → (transact_rows s ids rows q.operations).rows ≡ rows
transact_stays s ids rows q = split (is_fine (ran_of s ids rows q).fault)
    (λ e. rw (transact_rows, e) (at_commit_stays s rows (ran_of s ids rows q)))
    (λ e. rw (transact_rows, e) (λ h. refl))

changes_none : (s : Schema) (rows : List Row) (t : Transaction) → t.commits ≡ false → changes_of s rows t ≡ []
changes_none s rows t e = rw (changes_of, e)

-- ── a reply is a refusal that leaves everything, or what the rules make ──
pub data Replied (s : Schema) (rows : List Row) (t : Transaction) : Reply → Type 0 where
  refusing : (a : Status) → is_refusal a ≡ true → Replied s rows t (refused a rows)
  making : (r : Reply) → is_refusal r.status ≡ false → r.rows ≡ t.rows → r.changes ≡ changes_of s rows t → r.text ≡ t.text → Replied s rows t r

concluded_as : (s : Schema) (number : ℕ) (rows : List Row) (room : ℕ) (t : Transaction) → Replied s rows t (concluded s number rows room t)
concluded_as s number rows room t = split (leb (length t.text) room)
    (λ e. split (leb (number + length (changes_of s rows t)) last_number)
    (λ f. rw (concluded, e, Replies.numbered, f) (making _ refl refl refl refl))
    (λ f. rw (concluded, e, Replies.numbered, f) (refusing _ refl)))
    (λ e. rw (concluded, e) (refusing _ refl))

pub reply_as : (d : Database) (number : ℕ) (rows : List Row) (request fresh : List ℕ) (room : ℕ)
    → Replied d.tables rows (transact_rows d.tables (fresh_ids fresh) rows (request_or (read_request request)).operations) (reply d number rows request fresh room)
reply_as d number rows request fresh room = go (read_request request)
  where
    go : (o : Option Request)
        → Replied d.tables rows (transact_rows d.tables (fresh_ids fresh) rows (request_or o).operations) (reply_to d number rows (fresh_ids fresh) room o)
    go None = refusing _ refl
    go (Some q) = split (eq_bytes q.name d.name)
        (λ e. split (ids_good (fresh_ids fresh) rows)
        (λ f. rw (named, e, freshly, f) (concluded_as d.tables number rows room (transact_rows d.tables (fresh_ids fresh) rows q.operations)))
        (λ f. rw (named, e, freshly, f) (refusing _ refl)))
        (λ e. rw (named, e) (refusing _ refl))

module _ {s : Schema} {rows : List Row} {t : Transaction} where
  pub replied_laid : {r : Reply} → Replied s rows t r → is_refusal r.status ≡ false → (r.rows ≡ t.rows) × (r.changes ≡ changes_of s rows t) × (r.text ≡ t.text)
  replied_laid (refusing a h) e = absurd (clash (is_refusal a) h e)
  replied_laid (making r h p q u) e = (p, q, u)

  replied_refused : {r : Reply} → Replied s rows t r → is_refusal r.status ≡ true → (r.rows ≡ rows) × (r.changes ≡ [])
  replied_refused (refusing a h) e = (refl, refl)
  replied_refused (making r h p q u) e = absurd (clash (is_refusal r.status) e h)

  replied_stays : {r : Reply} → Replied s rows t r → t.commits ≡ false → t.rows ≡ rows → (r.rows ≡ rows) × (r.changes ≡ [])
  replied_stays (refusing a h) e f = (refl, refl)
  replied_stays (making r h p q u) e f = (p ∙ f, q ∙ changes_none s rows t e)

  -- the changes of a reply are those between the rows before and after it
  pub replied_diff : {r : Reply} → Replied s rows t r → diff s rows rows ≡ [] → (t.commits ≡ false → t.rows ≡ rows) → r.changes ≡ diff s rows r.rows
  replied_diff (refusing a h) e f = sym e
  replied_diff (making r h p q u) e f = split t.commits
      (λ c. q ∙ rw (changes_of, c, p))
      (λ c. q ∙ changes_none s rows t c ∙ rw (p, f c, e))
