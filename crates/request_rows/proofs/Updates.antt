-- The rows that meet conditions changed one after another. Assumes nothing.
use mathlib.Core.Path.{◌≡◌, refl, sym, ap, ◌∙◌}
use mathlib.Core.Bool.{Bool, true, false}
use mathlib.Core.List.{List, [], ◌∷◌, map}
use Prim.Native.Nat.{ℕ, zero, suc, ◌+◌, ◌≤◌, ◌<◌}
use native.Mathlib.Numerals.{add-one}
use native.Mathlib.Omega.{arith}
use borrow.Author.Tests.{eqb-true}
use lib.Dec.{eqb}
use lib.ListN.{length, get_or, take, set, length-set, length-map}
use lib.Seq.{take-set-lt, length-take-le, get_or-take, set-get_or}
use Rattle.model.specs.declared.Fault.{Fault}
use Rattle.std.specs.Prelude.{if◌then◌else◌, Option}
use Rattle.model.specs.Base.{all}
use Rattle.model.specs.Schema.{Column, Schema, columns_of}
use Rattle.model.specs.Value.{Value}
use Rattle.model.specs.Rows.{Row}
use Rattle.model.specs.Conditions.{Test, holds, matches}
use Rattle.model.specs.Faults.{is_fine}
use Rattle.model.specs.Operations.{update_row}
use Rattle.model.specs.Catalog.{column_from}
use Rattle.model.specs.Areas.{row_from}
use Rattle.inner.specs.Working.{working, table_in, Tidy}
use Rattle.model.proofs.Tests.{and_l}
use Rattle.inner.proofs.Working.{working_at, working_length, row_table}
use Rattle.inner.proofs.Places.{working_set, tidy_set, tidy_at}
use Rattle.marks.specs.Marks.{MarkedRows}
use Rattle.request_rows.specs.Assigned.{written_row, put_columns, RowAssigned, Template, RowRead, Updated, Updates}
use Rattle.request_rows.proofs.Values.{got_length}

-- ── the first i rows changed ──
module _ (f : Row → Row) where
  abbrev pub partly : ℕ → List Row → List Row
  partly zero l = l
  partly (suc i) [] = []
  partly (suc i) (r ∷ l) = f r ∷ partly i l

  partly_same : (i : ℕ) (l : List Row) (d : Row) → get_or (partly i l) i d ≡ get_or l i d
  partly_same zero l d = refl
  partly_same (suc i) [] d = refl
  partly_same (suc i) (r ∷ l) d = partly_same i l d

  partly_on : (i : ℕ) (l : List Row) (d : Row) → i < length l → set (partly i l) i (f (get_or l i d)) ≡ partly (suc i) l
  partly_on zero [] d h = absurd (omega arith)
  partly_on zero (r ∷ l) d h = refl
  partly_on (suc i) [] d h = absurd (omega arith)
  partly_on (suc i) (r ∷ l) d h = ap (λ (m : List Row). f r ∷ m) (partly_on i l d (omega arith))

  partly_all : (i : ℕ) (l : List Row) → length l ≤ i → partly i l ≡ map f l
  partly_all zero [] h = refl
  partly_all zero (r ∷ l) h = absurd (omega arith)
  partly_all (suc i) [] h = refl
  partly_all (suc i) (r ∷ l) h = ap (λ (m : List Row). f r ∷ m) (partly_all i l (omega arith))

no_row : Row
no_row = record { table = 0; id = 0; columns = [] }

module _ (cs : List Column) (ts : List Test) (os : List (Option Value)) (table n : ℕ) (entry : List (List (List ℕ))) (fits : n ≤ length entry) where
  abbrev change : Row → Row
  change = update_row (matches table ts) os

  -- in cells: the rows before i are done
  pub record Updating (i : ℕ) (cells : List (List (List ℕ))) : Type 0 where
    pub size : length cells ≡ length entry
    pub rows : (s : Schema) → columns_of s table ≡ cs → working s n cells ≡ partly change i (working s n entry)
    pub tidy : (s : Schema) → columns_of s table ≡ cs → Tidy s (take n entry) → Tidy s (take n cells)

  pub updating_none : Updating 0 entry
  updating_none = record { size = refl; rows = λ s e. refl; tidy = λ s e t. t }

  pub updating_end : (i : ℕ) (cells : List (List (List ℕ))) → n ≤ i → Updating i cells → Updated cs ts os table n entry cells
  updating_end i cells l g = record { rows = λ s e. g.rows s e ∙ partly_all change i (working s n entry) (omega (arith, working_length s entry n fits)); tidy = g.tidy }

  module _ (i : ℕ) (cells : List (List (List ℕ))) (l : i < n) (g : Updating i cells) where
    room : n ≤ length cells
    room = omega (arith, g.size)

    -- the row at i is as it was
    same_row : (s : Schema) → columns_of s table ≡ cs → row_from s (get_or cells i []) ≡ get_or (working s n entry) i no_row
    same_row s e = sym (working_at s cells n room i no_row l) ∙ ap (λ (m : List Row). get_or m i no_row) (g.rows s e) ∙ partly_same change i (working s n entry) no_row

    pub marked_here : (marks : List Bool) → MarkedRows cs ts table n entry marks → (s : Schema) → columns_of s table ≡ cs → get_or marks i false ≡ matches table ts (row_from s (get_or cells i []))
    unfolding MarkedRows
    marked_here marks m s e = m s e i l ∙ ap (matches table ts) (sym (same_row s e ∙ working_at s entry n fits i no_row l))

    -- the row at i changed
    next_is : (next : List (List (List ℕ))) → length next ≡ length cells
        → ((s : Schema) → columns_of s table ≡ cs → working s n next ≡ set (working s n cells) i (change (row_from s (get_or cells i []))))
        → ((s : Schema) → columns_of s table ≡ cs → Tidy s (take n cells) → Tidy s (take n next)) → Updating (i + 1) next
    next_is next z r t = record {
      size = z ∙ g.size;
      rows = λ s e.
          let r0 = working s n entry in
          r s e ∙ ap (λ (m : List Row). set m i (change (row_from s (get_or cells i [])))) (g.rows s e) ∙ ap (λ (q : Row). set (partly change i r0) i (change q)) (same_row s e)
          ∙ partly_on change i r0 no_row (omega (arith, working_length s entry n fits)) ∙ ap (λ (m : ℕ). partly change m r0) (sym (add-one i));
      tidy = λ s e q. t s e (g.tidy s e q);
    }

    module _ {m : Bool} (fit : (s : Schema) → columns_of s table ≡ cs → m ≡ matches table ts (row_from s (get_or cells i []))) where
      changed : {b : Bool} → m ≡ b → (s : Schema) → columns_of s table ≡ cs → change (row_from s (get_or cells i [])) ≡ (if b then put_columns os (row_from s (get_or cells i [])) else row_from s (get_or cells i []))
      changed e s h = ap (λ (b : Bool). if b then put_columns os (row_from s (get_or cells i [])) else row_from s (get_or cells i [])) (sym (fit s h) ∙ e)

      pub updating_kept : m ≡ false → Updating (i + 1) cells
      updating_kept e = next_is cells refl
          (λ s h. sym (ap (set (working s n cells) i) (changed e s h ∙ sym (working_at s cells n room i no_row l)) ∙ set-get_or (working s n cells) i no_row))
          (λ s h t. t)

      module _ (same : length os ≡ length cs) {row : List (List ℕ)} (k : RowAssigned os (get_or cells i []) row) (e : m ≡ true) where
        here_table : (s : Schema) → columns_of s table ≡ cs → table_in (get_or cells i []) ≡ table
        here_table s h =
            let r = row_from s (get_or cells i []) in
            sym (eqb-true table r.table (and_l (eqb table r.table) (all (holds r) ts) (sym (fit s h) ∙ e)) ∙ row_table s (get_or cells i []))

        pub updating_changed : Updating (i + 1) (set cells i row)
        updating_changed = next_is (set cells i row) (length-set cells i row)
            (λ s h. working_set s n cells i row l ∙ ap (set (working s n cells) i) (k.row s ∙ sym (changed e s h)))
            (λ s h t. rw (take-set-lt n cells i row l) (tidy_set s (take n cells) i row t
            (k.tidy s (ap (λ (x : ℕ). length (columns_of s x)) (here_table s h) ∙ ap length h ∙ sym same)
            (rw (get_or-take n cells i [] l) at (tidy_at s (take n cells) i [] t (omega (arith, length-take-le n cells room)))))))

-- ── by marks, with what a row and its flags say ──
module _ (k : ℕ) (row : List (List ℕ)) (given marks : List Bool) (n : ℕ) (entry : List (List (List ℕ))) where
  -- the same for all that the marks, the row and its flags may stand for
  abbrev pub Marking : ℕ → List (List (List ℕ)) → Type 0
  Marking i cells =
      (cs : List Column) (ts : List Test) (os : List (Option Value)) (table : ℕ) → length os ≡ k → length cs ≡ k → Template os row given → MarkedRows cs ts table n entry marks
      → (h : n ≤ length entry) → Updating cs ts os table n entry h i cells

  pub marking_none : Marking 0 entry
  marking_none cs ts os table a b t m h = updating_none cs ts os table n entry h

  pub marking_end : (i : ℕ) (cells : List (List (List ℕ))) → n ≤ length entry → n ≤ i → Marking i cells → Updates k row given marks n entry cells
  unfolding Updates
  marking_end i cells h l so cs ts os table a b t m = updating_end cs ts os table n entry h i cells l (so cs ts os table a b t m h)

  module _ (i : ℕ) (cells : List (List (List ℕ))) (l : i < n) (so : Marking i cells) where
    pub marking_kept : get_or marks i false ≡ false → Marking (i + 1) cells
    marking_kept e cs ts os table a b t m h =
        let g = so cs ts os table a b t m h in
        updating_kept cs ts os table n entry h i cells l g (marked_here cs ts os table n entry h i cells l g marks m) e

    pub marking_changed : {next : List (List ℕ)} → ((os : List (Option Value)) → length os ≡ k → Template os row given → RowAssigned os (get_or cells i []) next) → get_or marks i false ≡ true → Marking (i + 1) (set cells i next)
    marking_changed p e cs ts os table a b t m h =
        let g = so cs ts os table a b t m h in
        updating_changed cs ts os table n entry h i cells l g (marked_here cs ts os table n entry h i cells l g marks m) (a ∙ sym b) (p os a t) e

-- what was read without a fault put over the marked rows
pub updated_rows : (text : List ℕ) (names : List ℕ) (columns : List (List ℕ)) (at n : ℕ) (marks : List Bool) (ts : List Test) (table : ℕ) {born row : List (List ℕ)} {r : Fault} {given : List Bool}
    {entry exit : List (List (List ℕ))} → RowRead (written_row false text names columns at) r born row given → is_fine (written_row false text names columns at).fault ≡ true
    → Updates (length columns) row given marks n entry exit → MarkedRows (map column_from columns) ts table n entry marks → Updated (map column_from columns) ts (written_row false text names columns at).got table n entry exit
unfolding Updates
updated_rows text names columns at n marks ts table w h u m =
    let z = length-map columns column_from in
    u (map column_from columns) ts (written_row false text names columns at).got table (got_length false text names columns at ∙ z) z (w.template h) m
