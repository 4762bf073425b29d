-- A transaction's end: the commit, and the answer's text with it. Assumes nothing.
use Rattle.std.specs.Prelude.{Option}
use mathlib.Core.Path.{◌≡◌, refl, sym, ap, subst, ◌∙◌}
use mathlib.Core.Bool.{Bool, true, false}
use mathlib.Core.List.{List, [], ◌∷◌, ◌++◌}
use Prim.Native.Nat.{ℕ, ◌≤◌}
use native.Mathlib.Omega.{arith}
use lib.ListN.{length, length-map}
use Rattle.model.specs.Limits.{most_operations, fresh_bytes}
use Rattle.model.specs.Base.{all}
use Rattle.model.specs.Catalog.{packed_tables, database_from}
use Rattle.model.specs.Members.{members_in}
use Rattle.model.specs.declared.Fault.{Fault}
use Rattle.model.specs.declared.Fault.TheVariants.{Fine}
use Rattle.inner.specs.Positions.{is_nothing, items_from}
use Rattle.model.specs.Schema.{Schema}
use Rattle.model.specs.Rows.{Row}
use Rattle.model.specs.Faults.{is_fine, Judged}
use Rattle.model.specs.Commit.{all_found, commit}
use Rattle.inner.specs.Working.{working, Ordered}
use Rattle.inner.proofs.Ordering.{sorted_ordered}
use Rattle.catalog.specs.Accepted.{Accepted}
use Rattle.model.proofs.Order.{Sorted}
use Rattle.model.proofs.Octets.{octet}
use Rattle.model.proofs.Settled.{lawful_settled}
use Rattle.model.proofs.Same.{diff_self}
use Rattle.model.proofs.RunKeeps.{fresh_short, fresh_length, run_keeps}
use Rattle.model.proofs.TransactKeeps.{sane_modest}
use Rattle.model.specs.Answers.{bracketed, error_text}
use Rattle.model.specs.Replies.{changes_of}
use Rattle.model.specs.Transact as model
use Rattle.model.specs.Transact.{fresh_ids, names_of, run_all, at_commit}
use Rattle.model.specs.Written.{Names}
use Rattle.model.proofs.Tests.{split, clash}
use Rattle.model.proofs.TextUtf8.{by_test}
use Rattle.json_writer.specs.Put.{Put}
use Rattle.json_writer.specs.Texts.{comma_text, error_result}
use Rattle.json_writer.proofs.Putting.{put_then, put_is}
use Rattle.json_writer.proofs.Joins.{bracketed_is}
use Rattle.uuids.specs.Named.{operations_at, Filled}
use Rattle.uuids.proofs.Table.{filled_names}
use Rattle.commit.specs.declared.Settled.{Settled}
use Rattle.commit.specs.Steps.{Committed}
use Rattle.operations.specs.declared.Finish.{Finish}
use Rattle.store.specs.declared.reply.Outcome.{Outcome}
use Rattle.operations.specs.Running.{run_whole, RunAll}
use Rattle.store.specs.Replying.{run_on, committed, transact_on, closing, Sure, Closed, Ended}
use Rattle.store.proofs.Texts.{end_fine, end_failed, run_empty}

-- ── the commit and the closing text ──
closing_fine : (f : Fault) (first : Bool) → is_fine f ≡ true → (93 ∷ []) ≡ closing f first
unfolding closing
closing_fine f first h = by_test (λ (e : List ℕ). (93 ∷ []) ≡ e) (is_fine f) (λ t. refl) (λ t. absurd (clash (is_fine f) h t))

closing_failed : (f : Fault) (first : Bool) → is_fine f ≡ false → comma_text first ++ (error_result f ++ 93 ∷ []) ≡ closing f first
unfolding closing
closing_failed f first h =
    by_test (λ (e : List ℕ). comma_text first ++ (error_result f ++ 93 ∷ []) ≡ e) (is_fine f) (λ t. absurd (clash (is_fine f) t h)) (λ t. refl)

fine_found : (s : Schema) (rows : List Row) → is_fine (commit s rows).fault ≡ true → all_found s rows ≡ true
fine_found s rows h = split (all_found s rows) (λ e. e) (λ e. let z : is_fine (commit s rows).fault ≡ false = rw e in absurd (clash _ h z))

module _ {s : Schema} {n : ℕ} {entry exit : List (List (List ℕ))} {c : Settled} (d : Committed s n entry exit c) (kept : length exit ≡ length entry) where
  fault_is : c.fault ≡ (committed s (working s n entry)).fault
  unfolding committed
  fault_is = d.fault

  rows_are : is_fine c.fault ≡ true → working s c.count exit ≡ (committed s (working s n entry)).got
  unfolding committed
  rows_are h = d.rows (fine_found s (working s n entry) (ap is_fine (sym d.fault) ∙ h))

  module _ (first : Bool) {at : ℕ} {before : List ℕ} where
    pub closed_fine : is_fine c.fault ≡ true → {end : ℕ} {after : List ℕ} → Put 1 before at (93 ∷ []) end after
        → Closed s (committed s (working s n entry)) n entry exit first at before after (record { commits = true; count = c.count; at = end })
    closed_fine h p =
        let f : is_fine (committed s (working s n entry)).fault ≡ true = ap is_fine (sym fault_is) ∙ h in
        record {
          commits = sym f;
          rows = λ t. rows_are h;
          few = d.few;
          tidy = λ t. d.tidy;
          ordered = λ t. d.ordered;
          room = kept;
          text = put_is p (closing_fine _ first f) (omega arith);
        }

    pub closed_failed : is_fine c.fault ≡ false → {one two end : ℕ} {after1 after2 after : List ℕ} → Put 1 before at (comma_text first) one after1 → Put 43 after1 one (error_result c.fault) two after2
        → Put 1 after2 two (93 ∷ []) end after → Closed s (committed s (working s n entry)) n entry exit first at before after (record { commits = false; count = n; at = end })
    closed_failed h p q z =
        let f : is_fine (committed s (working s n entry)).fault ≡ false = ap is_fine (sym fault_is) ∙ h in
        record {
          commits = sym f;
          rows = λ t. absurd (clash false t refl);
          few = omega arith;
          tidy = λ t. absurd (clash false t refl);
          ordered = λ t. absurd (clash false t refl);
          room = kept;
          text = put_is (put_then p (put_then q z)) (ap (λ (x : Fault). comma_text first ++ (error_result x ++ 93 ∷ [])) fault_is ∙ closing_failed _ first f) (omega arith);
        }

-- ── the operations run by the table of uuid-names ──
filled_run : (s : Schema) (text : List ℕ) (ops : Option ℕ) (fresh names : List ℕ) (rows : List Row) → Filled text ops fresh names → run_whole s text ops names rows ≡ run_on s text ops fresh rows
unfolding run_whole run_on
filled_run s text ops fresh names rows t =
    ap (λ (f : Names). run_all s f [] (fresh_ids names) rows (operations_at text ops)) (filled_names t)
    ∙ ap (λ (ids : List ℕ). run_all s (names_of (fresh_ids fresh) (operations_at text ops)) [] ids rows (operations_at text ops)) t.ids

pub filled_all : (s : Schema) (text : List ℕ) (ops : Option ℕ) (fresh names : List ℕ) (rows : List Row) → Filled text ops fresh names → {n : ℕ} {entry mid : List (List (List ℕ))} {before answer : List ℕ} {q : Finish}
    → RunAll s (run_whole s text ops names rows) n entry mid before answer q → RunAll s (run_on s text ops fresh rows) n entry mid before answer q
filled_all s text ops fresh names rows t {n} {entry} {mid} {before} {answer} {q} r = subst (λ (d : model.Ran). RunAll s d n entry mid before answer q) (filled_run s text ops fresh names rows t) r

-- ── the operations leave rows in order ──
module _ (cells : List (List ℕ)) (ok : Accepted cells) (text : List ℕ) (ops : Option ℕ) (fresh : List ℕ) (few : length (items_from text ops) ≤ most_operations) (size : length fresh ≡ fresh_bytes) (bytes : all octet fresh ≡ true) where
  run_sorted : (rows : List Row) → Sure (packed_tables cells) text ops fresh rows → is_fine (run_on (packed_tables cells) text ops fresh rows).fault ≡ true → Sorted (run_on (packed_tables cells) text ops fresh rows).rows
  unfolding run_on operations_at
  run_sorted rows sure f =
      let os = operations_at text ops in
      (run_keeps (packed_tables cells) (names_of (fresh_ids fresh) os) [] (fresh_ids fresh) rows os (sane_modest (database_from cells) ok.sane) sure.operations
      (omega (arith, few, length-map (items_from text ops) members_in, fresh_length fresh)) (fresh_short fresh size bytes) sure.ids sure.sound.good sure.sound.meet f).good.sorted

  pub run_ordered : (n : ℕ) (entry mid : List (List (List ℕ))) {before answer : List ℕ} {q : Finish} → Sure (packed_tables cells) text ops fresh (working (packed_tables cells) n entry)
      → RunAll (packed_tables cells) (run_on (packed_tables cells) text ops fresh (working (packed_tables cells) n entry)) n entry mid before answer q → q.count ≤ length mid → is_fine q.fault ≡ true → Ordered q.count mid
  run_ordered n entry mid {q = q} sure ran h f =
      sorted_ordered (packed_tables cells) q.count mid h (subst Sorted (sym (ran.rows f)) (run_sorted (working (packed_tables cells) n entry) sure (ap is_fine (sym ran.fault) ∙ f)))

-- ── the whole transaction ──
module _ (s : Schema) (text : List ℕ) (ops : Option ℕ) (fresh : List ℕ) (rows : List Row) where
  abbrev whole : model.Ran
  whole = run_on s text ops fresh rows

  stopped_is : is_fine whole.fault ≡ false → transact_on s text ops fresh rows ≡ record { commits = false; rows = rows; text = bracketed whole.results }
  unfolding transact_on run_on
  stopped_is h =
      by_test (λ (t : model.Transaction). t ≡ record { commits = false; rows = rows; text = bracketed whole.results }) (is_fine whole.fault) (λ t. absurd (clash _ t h)) (λ t. refl)

  went_on : is_fine whole.fault ≡ true → transact_on s text ops fresh rows ≡ at_commit s rows whole
  unfolding transact_on run_on
  went_on h = by_test (λ (t : model.Transaction). t ≡ at_commit s rows whole) (is_fine whole.fault) (λ t. refl) (λ t. absurd (clash _ h t))

module _ (s : Schema) (rows : List Row) (r : model.Ran) where
  fine_is : is_fine (committed s r.rows).fault ≡ true → at_commit s rows r ≡ record { commits = true; rows = (committed s r.rows).got; text = bracketed r.results }
  unfolding committed
  fine_is h =
      by_test (λ (t : model.Transaction). t ≡ record { commits = true; rows = (committed s r.rows).got; text = bracketed r.results }) (is_fine (committed s r.rows).fault)
      (λ t. refl) (λ t. absurd (clash _ h t))

  failed_is : is_fine (committed s r.rows).fault ≡ false
      → at_commit s rows r ≡ record { commits = false; rows = rows; text = bracketed (r.results ++ error_text (committed s r.rows).fault ∷ []) }
  unfolding committed
  failed_is h =
      by_test (λ (t : model.Transaction). t ≡ record { commits = false; rows = rows; text = bracketed (r.results ++ error_text (committed s r.rows).fault ∷ []) }) (is_fine (committed s r.rows).fault)
      (λ t. absurd (clash _ t h)) (λ t. refl)

module _ (s : Schema) (text : List ℕ) (ops : Option ℕ) (fresh : List ℕ) (n : ℕ) (entry : List (List (List ℕ))) {mid : List (List (List ℕ))} {before answer : List ℕ} {q : Finish}
    (ran : RunAll s (run_on s text ops fresh (working s n entry)) n entry mid before answer q) (kept : length mid ≡ length entry) where
  abbrev run : model.Ran
  run = run_on s text ops fresh (working s n entry)

  abbrev done : model.Transaction
  done = transact_on s text ops fresh (working s n entry)

  ended_stopped : is_fine q.fault ≡ false → n ≤ 32 → {end : ℕ} {after : List ℕ} → Put 1 answer q.at (93 ∷ []) end after
      → Ended s done n entry mid before after (record { commits = false; count = n; at = end })
  ended_stopped h k p =
      let e = stopped_is s text ops fresh (working s n entry) (ap is_fine (sym ran.fault) ∙ h) in
      record {
        commits = λ t. absurd (clash false t refl);
        rows = λ t. absurd (clash false t refl);
        stays = λ t. ap (λ (t : model.Transaction). t.rows) e;
        none = λ t. ap (changes_of s (working s n entry)) e;
        few = k;
        tidy = λ t. absurd (clash false t refl);
        ordered = λ t. absurd (clash false t refl);
        room = kept;
        text = put_is (put_then ran.answer p) (bracketed_is run.results ∙ sym (ap (λ (t : model.Transaction). t.text) e)) (omega arith);
      }

  module _ (f : is_fine q.fault ≡ true) where
    went : done ≡ at_commit s (working s n entry) run
    went = went_on s text ops fresh (working s n entry) (ap is_fine (sym ran.fault) ∙ f)

    -- rows that no operation changed are settled: the commit leaves them, and writes no record
    ended_same : run.rows ≡ working s n entry → Sure s text ops fresh (working s n entry) → n ≤ 32 → {end : ℕ} {after : List ℕ} → Put 1 answer q.at (93 ∷ []) end after
        → Ended s done n entry mid before after (record { commits = false; count = n; at = end })
    unfolding committed
    ended_same same sure k p =
        let rows = working s n entry in
        let settled : committed s run.rows ≡ record { fault = Fine; got = rows } = ap (committed s) same ∙ lawful_settled s rows sure.sound.good sure.lawful in
        let e = went ∙ fine_is s rows run (ap (λ (j : Judged (List Row)). is_fine j.fault) settled) ∙ ap (λ (j : Judged (List Row)). ended j.got) settled in
        record {
          commits = λ t. absurd (clash false t refl);
          rows = λ t. absurd (clash false t refl);
          stays = λ t. ap (λ (t : model.Transaction). t.rows) e;
          none = λ t. ap (changes_of s rows) e ∙ diff_self s rows sure.sound.good.sorted;
          few = k;
          tidy = λ t. absurd (clash false t refl);
          ordered = λ t. absurd (clash false t refl);
          room = kept;
          text = put_is (put_then ran.answer p) (bracketed_is run.results ∙ sym (ap (λ (t : model.Transaction). t.text) e)) (omega arith);
        }
      where
        ended : List Row → model.Transaction
        ended rows = record { commits = true; rows = rows; text = bracketed run.results }

    module _ {exit : List (List (List ℕ))} {after : List ℕ} {r : Outcome} (c : Closed s (committed s run.rows) q.count mid exit (is_nothing ops) q.at answer after r) where
      after_fine : is_fine (committed s run.rows).fault ≡ true → Ended s done n entry exit before after r
      after_fine h =
          let e = went ∙ fine_is s (working s n entry) run h in
          record {
            commits = λ t. ap (λ (t : model.Transaction). t.commits) e;
            rows = λ t. c.rows t ∙ sym (ap (λ (t : model.Transaction). t.rows) e);
            stays = λ t. absurd (clash r.commits (c.commits ∙ h) t);
            none = λ t. absurd (clash r.commits (c.commits ∙ h) t);
            few = omega (arith, c.few, ran.few);
            tidy = λ t x. c.tidy t (ran.tidy f x);
            ordered = c.ordered;
            room = c.room ∙ kept;
            text = put_is (put_then ran.answer c.text) (end_fine run.results _ (is_nothing ops) h ∙ sym (ap (λ (t : model.Transaction). t.text) e)) (omega arith);
          }

      after_failed : is_fine (committed s run.rows).fault ≡ false → Ended s done n entry exit before after r
      after_failed h =
          let e = went ∙ failed_is s (working s n entry) run h in
          record {
            commits = λ t. absurd (clash r.commits t (c.commits ∙ h));
            rows = λ t. absurd (clash r.commits t (c.commits ∙ h));
            stays = λ t. ap (λ (t : model.Transaction). t.rows) e;
            none = λ t. ap (changes_of s (working s n entry)) e;
            few = omega (arith, c.few, ran.few);
            tidy = λ t. absurd (clash r.commits t (c.commits ∙ h));
            ordered = λ t. absurd (clash r.commits t (c.commits ∙ h));
            room = c.room ∙ kept;
            text = put_is (put_then ran.answer c.text) (end_failed run.results _ (is_nothing ops) h (run_empty s text ops fresh (working s n entry)) ∙ sym (ap (λ (t : model.Transaction). t.text) e)) (omega arith);
          }

    pub ended_commit : {first : Bool} → first ≡ is_nothing ops → {exit : List (List (List ℕ))} {after : List ℕ} {r : Outcome}
        → Closed s (committed s (working s q.count mid)) q.count mid exit first q.at answer after r → Ended s done n entry exit before after r
    ended_commit {first} e {exit} {after} {r} c =
        let c1 = subst (λ (b : Bool). Closed s (committed s (working s q.count mid)) q.count mid exit b q.at answer after r) e c in
        let c2 = subst (λ (l : List Row). Closed s (committed s l) q.count mid exit (is_nothing ops) q.at answer after r) (ran.rows f) c1 in
        split (is_fine (committed s run.rows).fault) (after_fine c2) (after_failed c2)

  -- nothing to commit: an operation failed, or none changed a row
  pub ended_idle : q.pending ≡ false → Sure s text ops fresh (working s n entry) → n ≤ 32 → {end : ℕ} {after : List ℕ} → Put 1 answer q.at (93 ∷ []) end after
      → Ended s done n entry mid before after (record { commits = false; count = n; at = end })
  ended_idle h sure k p = split (is_fine q.fault) (λ f. ended_same f (ran.same h f) sure k p) (λ f. ended_stopped f k p)
