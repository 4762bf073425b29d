-- A call on a store whose rows are in good order leaves rows in good order, whatever the request. Assumes nothing.
use Rattle.std.specs.Prelude.{Option, Some, None}
use mathlib.Core.Path.{◌≡◌, refl}
use mathlib.Core.Bool.{Bool, true, false}
use mathlib.Core.List.{List, [], ◌∷◌, ◌++◌}
use Prim.Native.Nat.{ℕ, ◌+◌, ◌≤◌}
use native.Mathlib.Omega.{arith}
use borrow.Author.Tests.{leb-true}
use lib.Dec.{leb}
use lib.ListN.{length}
use Rattle.model.specs.Octets.{eq_bytes}
use Rattle.model.specs.Base.{all}
use Rattle.model.specs.Limits.{fresh_bytes, last_number}
use Rattle.model.specs.Json.{Named}
use Rattle.model.specs.Schema.{Schema, Database}
use Rattle.model.specs.Sane.{column_sane, sane_column, sane}
use Rattle.model.specs.Rows.{Row}
use Rattle.model.proofs.Order.{Good, AllMeet}
use Rattle.model.specs.Faults.{is_fine}
use Rattle.model.specs.Commit.{commit, lawful}
use Rattle.model.specs.Answers.{bracketed, error_text}
use Rattle.model.specs.Transact.{Request, read_request, fresh_ids, ids_good, names_of, Ran, run_all, Transaction, at_commit, transact_rows}
use Rattle.model.specs.Replies.{Reply, refused, changes_of, concluded, freshly, reply, reply_to}
use Rattle.model.specs.declared.Status.TheVariants.{BadFreshIds}
use Rattle.model.proofs.Tests.{parts}
use Rattle.model.proofs.Octets.{octet}
use Rattle.model.proofs.SchemaLaws.{column_at_lem}
use Rattle.model.proofs.Settled.{commit_keeps}
use Rattle.model.proofs.FaultLaws.{fine_is}
use Rattle.model.proofs.WrittenLaws.{either}
use Rattle.model.proofs.OperateKeeps.{Modest}
use Rattle.model.proofs.RunKeeps.{short_id, fresh_short, fresh_length, operation_good, Sound, run_keeps, request_good}

-- "every value is canonical and meets its type, and every commit rule below holds"
pub record InOrder (s : Schema) (rows : List Row) : Type 0 where
  pub good : Good s rows
  pub meet : AllMeet s rows
  pub laws : lawful s rows ≡ true

-- the columns of an accepted schema
pub sane_modest : (d : Database) → sane d ≡ true → Modest d.tables
unfolding sane_column
sane_modest d h t k c e =
    let p = parts (column_sane (length d.tables) c) (column_at_lem d t k c h e) in
    (leb-true c.min 1 p.1.0, leb-true 1 c.max p.1.1.0)

-- rows run and committed, or as they were
committed : (s : Schema) (rows : List Row) (r : Ran) → InOrder s rows → Sound s r.rows → InOrder s (at_commit s rows r).rows
committed s rows r o k = go (is_fine (commit s r.rows).fault) refl
  where
    go : (b : Bool) → is_fine (commit s r.rows).fault ≡ b
        → let t : Transaction =
        elim b [
          | true ↦ record { commits = true; rows = (commit s r.rows).got; text = bracketed r.results }
          | false ↦ record { commits = false; rows = rows; text = bracketed (r.results ++ error_text (commit s r.rows).fault ∷ []) }
        ] in
        InOrder s t.rows
    go true e = let c = commit_keeps s r.rows k.good k.meet (fine_is (commit s r.rows).fault e) in record { good = c.good; meet = c.meet; laws = c.laws }
    go false e = o

pub transact_keeps : (s : Schema) (ids : List ℕ) (rows : List Row) (os : List (List Named)) → Modest s → all operation_good os ≡ true → length os ≤ length ids → all short_id ids ≡ true
    → ids_good ids rows ≡ true → InOrder s rows → InOrder s (transact_rows s ids rows os).rows
transact_keeps s ids rows os modest h n short fresh o = go (run_all s (names_of ids os) [] ids rows os) (run_keeps s (names_of ids os) [] ids rows os modest h n short fresh o.good o.meet)
  where
    go : (r : Ran) → (is_fine r.fault ≡ true → Sound s r.rows)
        → let t : Transaction = elim (is_fine r.fault) [ true ↦ at_commit s rows r | false ↦ record { commits = false; rows = rows; text = bracketed r.results } ] in
        InOrder s t.rows
    go r k = by (is_fine r.fault) k
      where
        by : (b : Bool) → (b ≡ true → Sound s r.rows)
            → let t : Transaction = elim b [ true ↦ at_commit s rows r | false ↦ record { commits = false; rows = rows; text = bracketed r.results } ] in
            InOrder s t.rows
        by true k' = committed s rows r o (k' refl)
        by false k' = o

-- ── a reply to a request ──
module _ (d : Database) (number : ℕ) (rows : List Row) (b : List ℕ) (room : ℕ) (h : sane d ≡ true) (l : length b ≡ fresh_bytes) (os : all octet b ≡ true) (o : InOrder d.tables rows) where
  -- what is to be shown of a reply
  abbrev After : Reply → Type 0
  After r = InOrder d.tables r.rows

  freshly_keeps : (t : List ℕ) (q : Request) → read_request t ≡ Some q → After (freshly d.tables number rows (fresh_ids b) room q)
  freshly_keeps t q e = go (ids_good (fresh_ids b) rows) refl
    where
      kept : ids_good (fresh_ids b) rows ≡ true → After (concluded d.tables number rows room (transact_rows d.tables (fresh_ids b) rows q.operations))
      kept f =
          let t0 : Transaction = transact_rows d.tables (fresh_ids b) rows q.operations in
          let k = request_good t q e in
          either After (leb (length t0.text) room)
          (either After (leb (number + length (changes_of d.tables rows t0)) last_number)
          (transact_keeps d.tables (fresh_ids b) rows q.operations (sane_modest d h) k.operations (omega (arith, k.few, fresh_length b)) (fresh_short b l os) f o) o)
          o

      go : (c : Bool) → ids_good (fresh_ids b) rows ≡ c
          → After (elim c [ true ↦ concluded d.tables number rows room (transact_rows d.tables (fresh_ids b) rows q.operations) | false ↦ refused BadFreshIds rows ])
      go true f = kept f
      go false f = o

  pub reply_keeps : (t : List ℕ) → InOrder d.tables (reply d number rows t b room).rows
  reply_keeps t = go (read_request t) refl
    where
      go : (q : Option Request) → read_request t ≡ q → After (reply_to d number rows (fresh_ids b) room q)
      go None e = o
      go (Some q) e = either After (eq_bytes q.name d.name) (freshly_keeps t q e) o
