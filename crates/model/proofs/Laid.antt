-- What a transact makes of a store's rows is what is laid down: whether it commits, the rows, the changes and the text. Assumes nothing.
use mathlib.Core.Path.{◌≡◌, refl, sym, ◌∙◌, ap, subst}
use mathlib.Core.Bool.{Bool, true, false, not, ◌&&◌}
use mathlib.Core.List.{List, [], ◌∷◌, ◌++◌, append-nil}
use Prim.Native.Nat.{ℕ, suc}
use lib.ListN.{length}
use Rattle.model.specs.Base.{all, every}
use Rattle.model.specs.Schema.{Schema}
use Rattle.model.specs.Rows.{Row, of_table}
use Rattle.model.specs.Faults.{is_fine, check}
use Rattle.model.specs.Answers.{bracketed, error_text}
use Rattle.model.specs.Commit.{all_found, settled, all_enough, not_over, unique, tables_good, commit}
use Rattle.model.specs.Transact.{fresh_ids, Ran, Transaction, transact_rows}
use Rattle.model.specs.Replies.{changes_of}
use Rattle.model.specs.Records.{diff}
use Rattle.model.specs.Laid.{limits_hold, indexes_hold, held, tables, asks, ran, succeeds, rows_laid, changes_laid, text_laid}
use Rattle.model.specs.declared.Fault.TheVariants.{Fine, Constraint, Integrity}

-- ── the rule of step 4 by its parts ──
swapped : (a b c d : Bool) → (a && b && (c && d)) ≡ (b && c && (a && d))
swapped true true c d = refl
swapped true false c d = refl
swapped false true true d = refl
swapped false true false d = refl
swapped false false c d = refl

tables_good_lem : (t : ℕ) (s : Schema) (rows : List Row) → tables_good t s rows ≡ (indexes_hold t s rows && limits_hold t s rows)
tables_good_lem t [] rows = refl
tables_good_lem t (x ∷ s) rows =
    ap (λ (b : Bool). not_over x.max_rows (length (of_table t rows)) && all (λ (index : List ℕ). unique index (of_table t rows)) x.indexes && b) (tables_good_lem (suc t) s rows)
    ∙ swapped (not_over x.max_rows (length (of_table t rows))) (all (λ (index : List ℕ). unique index (of_table t rows)) x.indexes) (indexes_hold (suc t) s rows) (limits_hold (suc t) s rows)

-- ── a request's operations and the commit ──
module _ (s : Schema) (before : List Row) (r : Ran) where
  abbrev kept : List Row
  kept = settled s r.rows

  -- by whether every operation succeeds, whether the commit is fine, and whether all of that holds
  abbrev made_by : Bool → Bool → Transaction
  made_by f c =
      elim f [
        | true ↦ elim c [
          | true ↦ record { commits = true; rows = kept; text = bracketed r.results }
          | false ↦ record { commits = false; rows = before; text = bracketed (r.results ++ error_text (commit s r.rows).fault ∷ []) }
        ]
        | false ↦ record { commits = false; rows = before; text = bracketed r.results }
      ]

  record Made (f c h : Bool) : Type 0 where
    commits : (made_by f c).commits ≡ h
    rows : (made_by f c).rows ≡ elim h [ true ↦ kept | false ↦ before ]
    changes : changes_of s before (made_by f c) ≡ elim h [ true ↦ diff s before kept | false ↦ [] ]
    text : (made_by f c).text ≡ bracketed (r.results ++ elim (f && not c) [ true ↦ error_text (commit s r.rows).fault ∷ [] | false ↦ [] ])

  made_by_lem : (f c : Bool) → Made f c (f && c)
  made_by_lem true true = record { commits = refl; rows = refl; changes = refl; text = ap bracketed (sym (append-nil r.results)) }
  made_by_lem true false = record { commits = refl; rows = refl; changes = refl; text = refl }
  made_by_lem false c = record { commits = refl; rows = refl; changes = refl; text = ap bracketed (sym (append-nil r.results)) }

  -- the four rules
  abbrev rules : Bool
  rules = every (all_found s r.rows ∷ all_enough s kept ∷ indexes_hold 0 s kept ∷ limits_hold 0 s kept ∷ [])

  checked : (a b c d : Bool) → is_fine (check a Integrity (check (b && (c && d)) Constraint Fine)) ≡ every (a ∷ b ∷ c ∷ d ∷ [])
  checked true true true true = refl
  checked true true true false = refl
  checked true true false d = refl
  checked true false c d = refl
  checked false b c d = refl

  commit_is : is_fine (commit s r.rows).fault ≡ rules
  commit_is =
      ap (λ (b : Bool). is_fine (check (all_found s r.rows) Integrity (check (all_enough s kept && b) Constraint Fine))) (tables_good_lem 0 s kept)
      ∙ checked (all_found s r.rows) (all_enough s kept) (indexes_hold 0 s kept) (limits_hold 0 s kept)

  made_is : Made (is_fine r.fault) (is_fine (commit s r.rows).fault) (is_fine r.fault && rules)
  made_is = subst (λ (b : Bool). Made (is_fine r.fault) (is_fine (commit s r.rows).fault) (is_fine r.fault && b)) commit_is (made_by_lem (is_fine r.fault) (is_fine (commit s r.rows).fault))

module _ (area request fresh : List ℕ) where
  abbrev pub transaction : Transaction
  transaction = transact_rows (tables area request fresh) (fresh_ids fresh) (held area request fresh).rows (asks area request fresh).operations

  pub laid_commits : transaction.commits ≡ succeeds area request fresh
  laid_commits = (made_is (tables area request fresh) (held area request fresh).rows (ran area request fresh)).commits

  pub laid_rows : transaction.rows ≡ rows_laid area request fresh
  laid_rows = (made_is (tables area request fresh) (held area request fresh).rows (ran area request fresh)).rows

  pub laid_changes : changes_of (tables area request fresh) (held area request fresh).rows transaction ≡ changes_laid area request fresh
  laid_changes = (made_is (tables area request fresh) (held area request fresh).rows (ran area request fresh)).changes

  pub laid_text : transaction.text ≡ text_laid area request fresh
  laid_text = (made_is (tables area request fresh) (held area request fresh).rows (ran area request fresh)).text
