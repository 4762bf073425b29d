-- A table's limits, and one table after another. Assumes nothing.
use mathlib.Core.Path.{◌≡◌, refl, sym, ap, ◌∙◌}
use borrow.Author.Tests.{eq-eqb}
use lib.Dec.{eqb}
use mathlib.Core.Bool.{Bool, true, false, ◌&&◌}
use mathlib.Core.List.{List, [], ◌∷◌}
use Prim.Native.Nat.{ℕ, zero, suc, ◌+◌, ◌-◌, ◌≤◌, ◌<◌}
use native.Mathlib.Numerals.{add-one}
use native.Mathlib.Omega.{arith}
use lib.ListN.{length, get_or, take}
use Rattle.model.specs.Base.{all, keep}
use Rattle.model.specs.Schema.{Table}
use Rattle.model.specs.Rows.{of_table}
use Rattle.model.specs.Commit.{unique, not_over, table_good, tables_good}
use Rattle.model.specs.Catalog.{table_from, tables_from, packed_tables, index_from, max_rows_from, table_count, indexes_offset, first_index_offset, second_index_offset}
use Rattle.inner.specs.Working.{working}
use Rattle.references.proofs.Packs.{tables_on, tables_end}
use Rattle.catalog.specs.Accepted.{Accepted}
use Rattle.catalog.proofs.Laws.{tables_length, few_tables}
use Rattle.limits.specs.Alike.{of_t, unique_cells, IndexFits}
use Rattle.limits.proofs.Indexed.{of_length, unique_model}
use Rattle.limits.proofs.Sanely.{cell_at, width_at, Below, fits_first, fits_second}

-- ── a test over the first m of two ──
module _ {A : Type 0} (q : A → Bool) (i j : A) where
  two_none : (m : ℕ) → m ≡ 0 → all q (take m (i ∷ j ∷ [])) ≡ true
  two_none m e = rw e

  two_no : (m : ℕ) → 0 < m → q i ≡ false → all q (take m (i ∷ j ∷ [])) ≡ false
  two_no zero h e = absurd (omega arith)
  two_no (suc m) h e = rw e

  two_one : (m : ℕ) → m ≡ 1 → q i ≡ true → all q (take m (i ∷ j ∷ [])) ≡ true
  two_one m e f = rw (e, f)

  two_both : (m : ℕ) → 1 < m → q i ≡ true → all q (take m (i ∷ j ∷ [])) ≡ q j
  two_both zero h f = absurd (omega arith)
  two_both (suc zero) h f = absurd (omega arith)
  two_both (suc (suc zero)) h f = rw f (with_true (q j))
    where
      with_true : (b : Bool) → (b && true) ≡ b
      with_true true = refl
      with_true false = refl
  two_both (suc (suc (suc m))) h f = rw f (with_true (q j))
    where
      with_true : (b : Bool) → (b && true) ≡ b
      with_true true = refl
      with_true false = refl

module _ (schema : List (List ℕ)) (t n : ℕ) (rows : List (List (List ℕ))) where
  abbrev pub good : Bool
  good = table_good (table_from schema t) (of_table t (working (packed_tables schema) n rows))

  abbrev pub mine : List (List (List ℕ))
  mine = keep (of_t t) (take n rows)

  abbrev pub few_enough : Bool
  few_enough = not_over (max_rows_from (cell_at schema t)) (length mine)

  abbrev unique_in : List ℕ → Bool
  unique_in index = unique index (of_table t (working (packed_tables schema) n rows))

  abbrev count : ℕ
  count = get_or (cell_at schema t) indexes_offset 0

  abbrev one : List ℕ
  one = index_from (cell_at schema t) first_index_offset

  abbrev two : List ℕ
  two = index_from (cell_at schema t) second_index_offset

  good_is : good ≡ (few_enough && all unique_in (take count (one ∷ two ∷ [])))
  unfolding table_from
  good_is = ap (λ (k : ℕ). not_over (max_rows_from (cell_at schema t)) k && all unique_in (take count (one ∷ two ∷ []))) (of_length (packed_tables schema) t n rows)

  pub good_over : few_enough ≡ false → good ≡ false
  good_over e = good_is ∙ rw e

  module _ (few : few_enough ≡ true) where
    pub good_none : count ≡ 0 → good ≡ true
    good_none e = good_is ∙ rw few (two_none unique_in one two count e)

    module _ (b : Below (width_at schema t) one) where
      first : (v : Bool) → unique_cells one mine ≡ v → unique_in one ≡ v
      first v e = unique_model (packed_tables schema) t one b n rows ∙ e

      pub good_first_no : 0 < count → unique_cells one mine ≡ false → good ≡ false
      good_first_no h e = good_is ∙ rw few (two_no unique_in one two count h (first false e))

      pub good_one : count ≡ 1 → unique_cells one mine ≡ true → good ≡ true
      good_one h e = good_is ∙ rw few (two_one unique_in one two count h (first true e))

      pub good_two : Below (width_at schema t) two → 1 < count → unique_cells one mine ≡ true → good ≡ unique_cells two mine
      good_two d h e = good_is ∙ rw few (two_both unique_in one two count h (first true e) ∙ unique_model (packed_tables schema) t two d n rows)

-- ── what the code knows of a table, by the bytes of its cell ──
module _ (schema : List (List ℕ)) (ok : Accepted schema) (t n : ℕ) (rows : List (List (List ℕ))) (h : t < length (packed_tables schema)) (place : ℕ) (e : place ≡ t) where
  abbrev cell : List ℕ
  cell = get_or schema (1 + place) []

  abbrev differ : List ℕ → Bool
  differ index = unique_cells index (mine schema t n rows)

  pub in_area : 1 + place < 29
  in_area = omega (arith, e, h, tables_length schema 0 (table_count schema), few_tables schema ok)

  there : t < table_count schema
  there = omega (arith, h, tables_length schema 0 (table_count schema))

  index_is : (offset : ℕ) (index : List ℕ) → index ≡ index_from cell offset → index ≡ index_from (cell_at schema t) offset
  index_is offset index g = g ∙ ap (λ (u : ℕ). index_from (get_or schema (1 + u) []) offset) e

  module _ (found : ℕ) (within : Bool) (p : found ≡ length (mine schema t n rows)) (q : within ≡ not_over (max_rows_from cell) found) where
    few_is : few_enough schema t n rows ≡ within
    few_is = sym (q ∙ ap (λ (k : ℕ). not_over (max_rows_from cell) k) p ∙ ap (λ (u : ℕ). not_over (max_rows_from (get_or schema (1 + u) [])) (length (mine schema t n rows))) e)

    pub table_over : within ≡ false → within ≡ good schema t n rows
    table_over w = w ∙ sym (good_over schema t n rows (few_is ∙ w))

    module _ (number : ℕ) (r : number ≡ get_or cell indexes_offset 0) where
      number_is : number ≡ get_or (cell_at schema t) indexes_offset 0
      number_is = r ∙ ap (λ (u : ℕ). get_or (get_or schema (1 + u) []) indexes_offset 0) e

      positive : (number ≡ 0 → ⊥) → 0 < get_or (cell_at schema t) indexes_offset 0
      positive f = rw (← number_is) (omega (arith, f))

      more : (number ≡ 0 → ⊥) → (number ≡ 1 → ⊥) → 1 < get_or (cell_at schema t) indexes_offset 0
      more f g = rw (← number_is) (omega (arith, f, g))

      pub first_fits : (number ≡ 0 → ⊥) → (index : List ℕ) → index ≡ index_from cell first_index_offset → IndexFits index
      first_fits f index g = rw (index_is first_index_offset index g) (fits_first schema ok t there (positive f)).0

      pub second_fits : (number ≡ 0 → ⊥) → (number ≡ 1 → ⊥) → (index : List ℕ) → index ≡ index_from cell second_index_offset → IndexFits index
      second_fits f g index d = rw (index_is second_index_offset index d) (fits_second schema ok t there (more f g)).0

      module _ (w : within ≡ true) where
        few : few_enough schema t n rows ≡ true
        few = few_is ∙ w

        pub table_none : number ≡ 0 → eqb number 0 ≡ good schema t n rows
        table_none f = eq-eqb number 0 f ∙ sym (good_none schema t n rows few (sym number_is ∙ f))

        module _ (f : number ≡ 0 → ⊥) (index : List ℕ) (g : index ≡ index_from cell first_index_offset) (unlike : Bool) (d : unlike ≡ unique_cells index (mine schema t n rows)) where
          said : unique_cells (index_from (cell_at schema t) first_index_offset) (mine schema t n rows) ≡ unlike
          said = ap differ (sym (index_is first_index_offset index g)) ∙ sym d

          below : Below (width_at schema t) (index_from (cell_at schema t) first_index_offset)
          below = (fits_first schema ok t there (positive f)).1

          pub table_alike : unlike ≡ false → unlike ≡ good schema t n rows
          table_alike u = u ∙ sym (good_first_no schema t n rows few below (positive f) (said ∙ u))

          pub table_one : unlike ≡ true → number ≡ 1 → eqb number 1 ≡ good schema t n rows
          table_one u o = eq-eqb number 1 o ∙ sym (good_one schema t n rows few below (sym number_is ∙ o) (said ∙ u))

          pub table_two : unlike ≡ true → (number ≡ 1 → ⊥) → (other : List ℕ) → other ≡ index_from cell second_index_offset → (last : Bool) → last ≡ unique_cells other (mine schema t n rows) → last ≡ good schema t n rows
          table_two u o other i last v =
              v ∙ ap differ (index_is second_index_offset other i)
              ∙ sym (good_two schema t n rows few below (fits_second schema ok t there (more f o)).1 (more f o) (said ∙ u))

-- ── one table after another ──
module _ (schema : List (List ℕ)) (n : ℕ) (rows : List (List (List ℕ))) (t : ℕ) where
  abbrev pub good_from : ℕ → Bool
  good_from u = tables_good u (tables_from schema u (table_count schema - u)) (working (packed_tables schema) n rows)

  pub tables_here : t < table_count schema → good schema t n rows ≡ false → good_from t ≡ false
  tables_here h e = ap (λ (l : List Table). tables_good t l (working (packed_tables schema) n rows)) (tables_on schema t (table_count schema) h) ∙ rw e

  pub tables_next : t < table_count schema → good schema t n rows ≡ true → good_from t ≡ good_from (t + 1)
  tables_next h e = ap (λ (l : List Table). tables_good t l (working (packed_tables schema) n rows)) (tables_on schema t (table_count schema) h) ∙ rw (e, add-one t)

  pub tables_last : table_count schema ≤ t → good_from t ≡ true
  tables_last h = ap (λ (l : List Table). tables_good t l (working (packed_tables schema) n rows)) (tables_end schema t (table_count schema) h)
