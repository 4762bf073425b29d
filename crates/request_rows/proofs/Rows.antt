-- What is written put into rows: one column, all columns, a new row, the rows that meet conditions. Assumes nothing.
use Rattle.std.specs.Prelude.{Option, Some, None}
use mathlib.Core.Path.{◌≡◌, refl, sym, ap, ◌∙◌}
use mathlib.Core.Bool.{Bool, true}
use mathlib.Core.List.{List, [], ◌∷◌, map}
use Prim.Native.Nat.{ℕ, zero, suc, ◌+◌, ◌^◌, ◌≤◌, ◌<◌}
use native.Mathlib.Numerals.{add-one}
use native.Mathlib.Omega.{arith}
use lib.ListN.{length, get_or, take, set, length-map}
use lib.Seq.{take_all}
use Rattle.model.specs.declared.Fault.{Fault}
use Rattle.model.specs.Faults.{is_fine}
use Rattle.model.specs.Schema.{Column, Schema, columns_of}
use Rattle.model.specs.Value.{Value}
use Rattle.model.specs.Rows.{Row, add, set_column}
use Rattle.model.specs.Operations.{assigned}
use Rattle.model.specs.Areas.{row_cells, row_from}
use Rattle.model.specs.Catalog.{column_from}
use Rattle.inner.specs.Working.{working, table_in, new_row, TidyRow}
use Rattle.inner.proofs.Working.{row_table}
use Rattle.inner.proofs.NewRows.{new_row_read, new_row_tidy}
use Rattle.rows.specs.Post.{Added, ColumnSet}
use Rattle.request_rows.specs.Assigned.{written_row, put_column, put_columns, ColumnAssigned, RowAssigned, Born, RowRead, Inserted}
use Rattle.request_rows.proofs.Values.{got_length}

-- ── one column ──
module _ (c : ℕ) (entry : List (List ℕ)) where
  pub column_set : {exit : List (List ℕ)} {v w : Value} {o : Option Value} → ColumnSet c v entry exit → v ≡ w → o ≡ Some w → ColumnAssigned c o entry exit
  unfolding put_column
  column_set t e f = record {
    row = λ s. t.row s ∙ ap (λ (x : Value). set_column c x (row_from s entry)) e ∙ sym (ap (λ (x : Option Value). put_column c x (row_from s entry)) f);
    tidy = t.tidy;
  }

  pub column_kept : {o : Option Value} → o ≡ None → ColumnAssigned c o entry entry
  unfolding put_column
  column_kept f = record { row = λ s. sym (ap (λ (x : Option Value). put_column c x (row_from s entry)) f); tidy = λ s h g t. t }

-- ── one column after another ──
put_at : ℕ → Option Value → List Value → List Value
put_at c None l = l
put_at c (Some v) l = set l c v

put_empty : (c : ℕ) (o : Option Value) → put_at c o [] ≡ []
unfolding put_at
put_empty c None = refl
put_empty c (Some v) = refl

put_cons : (c : ℕ) (o : Option Value) (v : Value) (l : List Value) → put_at (suc c) o (v ∷ l) ≡ v ∷ put_at c o l
unfolding put_at
put_cons c None v l = refl
put_cons c (Some w) v l = refl

assigned_on : (os : List (Option Value)) (vs : List Value) (c : ℕ) → c < length os → put_at c (get_or os c None) (assigned (take c os) vs) ≡ assigned (take (suc c) os) vs
unfolding put_at
assigned_on [] vs c h = absurd (omega arith)
assigned_on (o ∷ os) [] zero h = put_empty 0 o
assigned_on (None ∷ os) (v ∷ vs) zero h = refl
assigned_on (Some w ∷ os) (v ∷ vs) zero h = refl
assigned_on (o ∷ os) [] (suc c) h = put_empty (suc c) (get_or os c None)
assigned_on (None ∷ os) (v ∷ vs) (suc c) h = put_cons c (get_or os c None) v (assigned (take c os) vs) ∙ ap (λ (l : List Value). v ∷ l) (assigned_on os vs c (omega arith))
assigned_on (Some w ∷ os) (v ∷ vs) (suc c) h = put_cons c (get_or os c None) w (assigned (take c os) vs) ∙ ap (λ (l : List Value). w ∷ l) (assigned_on os vs c (omega arith))

put_row : (c : ℕ) (o : Option Value) (xs : List (Option Value)) (r : Row) → put_column c o (put_columns xs r) ≡ record { table = r.table; id = r.id; columns = put_at c o (assigned xs r.columns) }
unfolding put_column put_at
put_row c None xs r = refl
put_row c (Some v) xs r = refl

module _ (os : List (Option Value)) (entry : List (List ℕ)) where
  -- the columns before c are done
  pub record Assigning (c : ℕ) (row : List (List ℕ)) : Type 0 where
    pub row_is : (s : Schema) → row_from s row ≡ put_columns (take c os) (row_from s entry)
    pub tidy : (s : Schema) → length (columns_of s (table_in entry)) ≡ length os → TidyRow s entry → TidyRow s row

  pub assigning_none : Assigning 0 entry
  assigning_none = record { row_is = λ s. refl; tidy = λ s h t. t }

  pub assigning_end : (c : ℕ) (row : List (List ℕ)) → length os ≤ c → Assigning c row → RowAssigned os entry row
  assigning_end c row h w = record { row = λ s. w.row_is s ∙ ap (λ (l : List (Option Value)). put_columns l (row_from s entry)) (take_all c os h); tidy = w.tidy }

  pub assigning_on : (c : ℕ) {o : Option Value} {row next : List (List ℕ)} → c < length os → length os ≤ 6 → get_or os c None ≡ o → ColumnAssigned c o row next → Assigning c row → Assigning (c + 1) next
  assigning_on c {o} {row} {next} h few e k w = record {
    row_is = λ s.
        k.row s ∙ ap (put_column c o) (w.row_is s) ∙ put_row c o (take c os) (row_from s entry)
        ∙ (λ i. record {
          table = (row_from s entry).table;
          id = (row_from s entry).id;
          columns = (ap (λ (x : Option Value). put_at c x (assigned (take c os) (row_from s entry).columns)) (sym e)
              ∙ assigned_on os (row_from s entry).columns c h
              ∙ ap (λ (m : ℕ). assigned (take m os) (row_from s entry).columns) (sym (add-one c))) i;
        });
    tidy = λ s n t.
        let u : table_in row ≡ table_in entry = sym (row_table s row) ∙ ap (λ (r : Row). r.table) (w.row_is s) ∙ row_table s entry in
        let v : length (columns_of s (table_in row)) ≡ length os = ap (λ (m : ℕ). length (columns_of s m)) u ∙ n in
        k.tidy s (omega arith) (omega arith) (w.tidy s n t);
  }

-- ── a new row ──
pub few_columns_lem : (cells : List (List ℕ)) → length cells ≤ 6 → length (map column_from cells) ≤ 6
few_columns_lem cells h = omega (arith, length-map cells column_from)

module _ (cs : List Column) (os : List (Option Value)) (t i n : ℕ) (few : length cs ≤ 6) (same : length os ≡ length cs) (short : i < 256 ^ 16) where
  pub inserted_new : {entry exit : List (List (List ℕ))} {born row : List (List ℕ)} → born ≡ row_cells (new_row t i cs) → RowAssigned os born row → Added n row entry exit → Inserted cs os t i n entry exit
  inserted_new {entry} {exit} {born} {row} b r a = record {
    rows = λ s e. a.rows s ∙ ap (λ (x : Row). add x (working s n entry)) (r.row s ∙ ap (put_columns os) (new s e));
    tidy = λ s e d. a.tidy s d (r.tidy s (ap (λ (m : ℕ). length (columns_of s m)) (table s e) ∙ ap length e ∙ sym same) (tidy s e));
  }
    where
      cells : (s : Schema) → columns_of s t ≡ cs → born ≡ row_cells (new_row t i (columns_of s t))
      cells s e = b ∙ ap (λ (l : List Column). row_cells (new_row t i l)) (sym e)

      narrow : (s : Schema) → columns_of s t ≡ cs → length (columns_of s t) ≤ 6
      narrow s e = rw e few

      new : (s : Schema) → columns_of s t ≡ cs → row_from s born ≡ new_row t i cs
      new s e = ap (row_from s) (cells s e) ∙ new_row_read s t i (narrow s e) short ∙ ap (new_row t i) e

      table : (s : Schema) → columns_of s t ≡ cs → table_in born ≡ t
      table s e = sym (row_table s born) ∙ ap (λ (x : Row). x.table) (new s e)

      tidy : (s : Schema) → columns_of s t ≡ cs → TidyRow s born
      tidy s e = rw (cells s e) (new_row_tidy s t i (narrow s e) short)

-- a new row that what is written was read into without a fault, added
pub inserted_row : (text : List ℕ) (names : List ℕ) (columns : List (List ℕ)) (at t i n : ℕ) → length columns ≤ 6 → {born row : List (List ℕ)} {r : Fault} {given : List Bool} {entry exit : List (List (List ℕ))}
    → Born (map column_from columns) t i born → RowRead (written_row true text names columns at) r born row given → is_fine (written_row true text names columns at).fault ≡ true → Added n row entry exit
    → Inserted (map column_from columns) (written_row true text names columns at).got t i n entry exit
inserted_row text names columns at t i n few b r h a =
    inserted_new (map column_from columns) (written_row true text names columns at).got t i n (few_columns_lem columns few) (got_length true text names columns at) b.size b.cells (r.assigned h) a
