-- A transact on a store's rows: what it makes of them and writes is a history's call, and rows in good order stay so. Assumes nothing.
use mathlib.Core.Path.{◌≡◌, refl, sym, ◌∙◌, ap}
use mathlib.Core.Bool.{Bool, true, false}
use mathlib.Core.List.{List, []}
use Prim.Native.Nat.{ℕ, ◌+◌}
use native.Mathlib.Omega.{arith}
use lib.Dec.{leb}
use lib.ListN.{length}
use Rattle.model.specs.Octets.{eq_bytes}
use Rattle.model.specs.Limits.{fresh_bytes, last_number}
use Rattle.std.specs.Prelude.{if◌then◌else◌, Option, Some, None}
use Rattle.model.specs.Base.{all}
use Rattle.model.specs.Schema.{Schema, Database}
use Rattle.model.specs.Rows.{Row}
use Rattle.model.specs.Sane.{sane}
use Rattle.model.specs.Transact.{Request, read_request, fresh_ids, ids_good, Transaction, transact_rows}
use Rattle.model.specs.Records.{Change, diff}
use Rattle.model.proofs.Order.{Sorted}
use Rattle.model.specs.Refusals.{is_refusal}
use Rattle.model.specs.Replies.{Reply, refused, changes_of, numbered, concluded, freshly, reply_to, reply}
use Rattle.model.specs.declared.Status.{Status}
use Rattle.model.specs.declared.Status.TheVariants.{BadRequest, OtherDatabase, BadFreshIds, AnswerTooLong}
use Rattle.model.proofs.Tests.{split, clash}
use Rattle.model.proofs.TextUtf8.{by_test}
use Rattle.model.proofs.Octets.{octet}
use Rattle.model.proofs.Same.{diff_self}
use Rattle.model.proofs.RunKeeps.{fresh_short, fresh_length, request_good}
use Rattle.model.proofs.TransactKeeps.{InOrder, sane_modest, transact_keeps}
use Rattle.model.proofs.Replied.{transact_stays}

-- two choices by one test
by_tests : {A B : Type 0} (R : A → B → Type 0) (b : Bool) {x y : A} {u v : B} → (b ≡ true → R x u) → (b ≡ false → R y v) → R (elim b [ true ↦ x | false ↦ y ]) (elim b [ true ↦ u | false ↦ v ])
by_tests R true f g = f refl
by_tests R false f g = g refl

-- ── what a transact would make of rows, if record numbers never ran out: the rows themselves, where it is refused or fails ──
abbrev concluded_rows : List Row → ℕ → Transaction → List Row
concluded_rows rows room t = elim (leb (length t.text) room) [ true ↦ t.rows | false ↦ rows ]

abbrev fresh_rows : Schema → List Row → List ℕ → ℕ → Request → List Row
fresh_rows s rows ids room q = elim (ids_good ids rows) [ true ↦ concluded_rows rows room (transact_rows s ids rows q.operations) | false ↦ rows ]

abbrev named_rows : Database → List Row → List ℕ → ℕ → Request → List Row
named_rows d rows ids room q = elim (eq_bytes q.name d.name) [ true ↦ fresh_rows d.tables rows ids room q | false ↦ rows ]

abbrev reply_by : Database → List ℕ → ℕ → List Row → Option Request → List Row
reply_by d fresh room rows None = rows
reply_by d fresh room rows (Some q) = named_rows d rows (fresh_ids fresh) room q

abbrev pub reply_rows : Database → List ℕ → List ℕ → ℕ → List Row → List Row
reply_rows d request fresh room rows = reply_by d fresh room rows (read_request request)

-- ── the reply, by what the transact would make of the rows ──
module _ (s : Schema) (number : ℕ) (rows : List Row) where
  abbrev fits : List Row → Bool
  fits after = leb (number + length (diff s rows after)) last_number

  -- rows and changes are those of a history's call that makes `meant` of the rows, and a refusal has neither
  pub record AsCall (r : Reply) (meant : List Row) : Type 0 where
    pub after : r.rows ≡ (if fits meant then meant else rows)
    pub written : r.changes ≡ (if fits meant then diff s rows meant else [])
    pub refuses : is_refusal r.status ≡ true → (r.rows ≡ rows) × (r.changes ≡ [])

  module _ (o : Sorted rows) where
    refused_call : (a : Status) → AsCall (refused a rows) rows
    refused_call a = record {
      after = split (fits rows) (λ e. rw e) (λ e. rw e);
      written = split (fits rows) (λ e. rw (e, diff_self s rows o)) (λ e. rw e);
      refuses = λ h. (refl, refl);
    }

    numbered_call : (t : Transaction) (es : List Change) → es ≡ diff s rows t.rows → AsCall (numbered number rows t es) t.rows
    numbered_call t es e =
        let q : leb (number + length es) last_number ≡ fits t.rows = ap (λ (l : List Change). leb (number + length l) last_number) e in
        by_test (λ (r : Reply). AsCall r t.rows) (leb (number + length es) last_number)
        (λ h.
        let p : fits t.rows ≡ true = sym q ∙ h in
        record { after = rw p; written = rw p e; refuses = λ x. absurd (clash false x refl) })
        (λ h.
        let p : fits t.rows ≡ false = sym q ∙ h in
        record { after = rw p; written = rw p; refuses = λ x. (refl, refl) })

    concluded_call : (room : ℕ) (t : Transaction) → (t.commits ≡ false → t.rows ≡ rows) → AsCall (concluded s number rows room t) (concluded_rows rows room t)
    concluded_call room t h = by_tests AsCall (leb (length t.text) room) (λ e. numbered_call t (changes_of s rows t) changed) (λ e. refused_call AnswerTooLong)
      where
        changed : changes_of s rows t ≡ diff s rows t.rows
        changed = by_test (λ (l : List Change). l ≡ diff s rows t.rows) t.commits (λ c. refl) (λ c. rw (h c) (sym (diff_self s rows o)))

    freshly_call : (ids : List ℕ) (room : ℕ) (q : Request) → AsCall (freshly s number rows ids room q) (fresh_rows s rows ids room q)
    freshly_call ids room q =
        by_tests AsCall (ids_good ids rows) (λ e. concluded_call room (transact_rows s ids rows q.operations) (transact_stays s ids rows q)) (λ e. refused_call BadFreshIds)

pub reply_call : (d : Database) (number : ℕ) (rows : List Row) (request fresh : List ℕ) (room : ℕ) → Sorted rows
    → AsCall d.tables number rows (reply d number rows request fresh room) (reply_rows d request fresh room rows)
reply_call d number rows request fresh room o = go (read_request request)
  where
    go : (m : Option Request) → AsCall d.tables number rows (reply_to d number rows (fresh_ids fresh) room m) (reply_by d fresh room rows m)
    go None = refused_call d.tables number rows o BadRequest
    go (Some q) =
        by_tests (AsCall d.tables number rows) (eq_bytes q.name d.name) (λ e. freshly_call d.tables number rows o (fresh_ids fresh) room q) (λ e. refused_call d.tables number rows o OtherDatabase)

-- ── rows in good order stay so ──
pub rows_keep : (d : Database) (request fresh : List ℕ) (room : ℕ) (rows : List Row) → sane d ≡ true → length fresh ≡ fresh_bytes → all octet fresh ≡ true
    → InOrder d.tables rows → InOrder d.tables (reply_rows d request fresh room rows)
rows_keep d request fresh room rows h l b o = go (read_request request) refl
  where
    go : (m : Option Request) → read_request request ≡ m → InOrder d.tables (reply_by d fresh room rows m)
    go None e = o
    go (Some q) e =
        let t : Transaction = transact_rows d.tables (fresh_ids fresh) rows q.operations in
        let k = request_good request q e in
        by_test (InOrder d.tables) (eq_bytes q.name d.name)
        (λ n. by_test (InOrder d.tables) (ids_good (fresh_ids fresh) rows)
        (λ i. by_test (InOrder d.tables) (leb (length t.text) room)
        (λ x. transact_keeps d.tables (fresh_ids fresh) rows q.operations (sane_modest d h) k.operations (omega (arith, k.few, fresh_length fresh)) (fresh_short fresh l b) i o)
        (λ x. o)) (λ i. o)) (λ n. o)
