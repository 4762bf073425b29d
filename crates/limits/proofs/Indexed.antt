-- Rows of a table that are equal in an index: in cells, and as the rows that these stand for. Assumes nothing.
use mathlib.Core.Path.{◌≡◌, refl, sym, ap, ◌∙◌}
use mathlib.Core.Bool.{true, false}
use mathlib.Core.List.{List, [], ◌∷◌, map}
use Prim.Native.Nat.{ℕ, ◌<◌}
use borrow.Author.Tests.{ltb-true, eqb-true}
use lib.Dec.{eqb, ltb}
use lib.ListN.{length, take, length-map}
use Rattle.model.specs.Base.{any, all, keep}
use Rattle.model.specs.Schema.{Schema, columns_of}
use Rattle.model.specs.Rows.{Row, of_table}
use Rattle.model.specs.Commit.{same_at, unique}
use Rattle.model.specs.Areas.{row_from}
use Rattle.inner.specs.Working.{working, table_in}
use Rattle.model.proofs.Tests.{split}
use Rattle.model.proofs.Lists.{all_head, all_tail}
use Rattle.inner.proofs.Working.{row_table}
use Rattle.inner.proofs.Columns.{column_value_lem}
use Rattle.limits.specs.Alike.{of_t, same_cells, unique_cells}

module _ (s : Schema) (t : ℕ) where
  of_map : (l : List (List (List ℕ))) → of_table t (map (row_from s) l) ≡ map (row_from s) (keep (of_t t) l)
  unfolding of_t
  of_map [] = refl
  of_map (r ∷ l) = split (eqb t (table_in r))
      (λ e. let f : eqb t (row_from s r).table ≡ true = ap (eqb t) (row_table s r) ∙ e in rw (f, e) (ap (λ (m : List Row). row_from s r ∷ m) (of_map l)))
      (λ e. let f : eqb t (row_from s r).table ≡ false = ap (eqb t) (row_table s r) ∙ e in rw (f, e) (of_map l))

  pub of_length : (n : ℕ) (cells : List (List (List ℕ))) → length (of_table t (working s n cells)) ≡ length (keep (of_t t) (take n cells))
  unfolding working
  of_length n cells = ap length (of_map (take n cells)) ∙ length-map (keep (of_t t) (take n cells)) (row_from s)

  -- rows of table t
  abbrev AllOf : List (List (List ℕ)) → Type 0
  AllOf [] = Unit
  AllOf (r ∷ l) = (table_in r ≡ t) × AllOf l

  all_of : (l : List (List (List ℕ))) → AllOf (keep (of_t t) l)
  unfolding of_t
  all_of [] = tt
  all_of (r ∷ l) = split (eqb t (table_in r)) (λ e. rw e (sym (eqb-true t (table_in r) e), all_of l)) (λ e. rw e (all_of l))

  module _ (x y : List (List ℕ)) (p : table_in x ≡ t) (q : table_in y ≡ t) where
    same_model : (index : List ℕ) → all (λ (c : ℕ). ltb c (length (columns_of s t))) index ≡ true → same_at index (row_from s x) (row_from s y) ≡ same_cells index x y
    unfolding same_cells
    same_model [] h = refl
    same_model (c ∷ index) h =
        let b : c < length (columns_of s t) = ltb-true c (length (columns_of s t)) (all_head (λ (c : ℕ). ltb c (length (columns_of s t))) c index h) in
        rw (column_value_lem s x c (rw p b), column_value_lem s y c (rw q b), same_model index (all_tail (λ (c : ℕ). ltb c (length (columns_of s t))) c index h))

  module _ (index : List ℕ) (h : all (λ (c : ℕ). ltb c (length (columns_of s t))) index ≡ true) where
    any_model : (x : List (List ℕ)) → table_in x ≡ t → (l : List (List (List ℕ))) → AllOf l → any (same_at index (row_from s x)) (map (row_from s) l) ≡ any (same_cells index x) l
    any_model x p [] g = refl
    any_model x p (y ∷ l) g = rw (same_model x y p g.0 index h, any_model x p l g.1)

    unique_map : (l : List (List (List ℕ))) → AllOf l → unique index (map (row_from s) l) ≡ unique_cells index l
    unique_map [] g = refl
    unique_map (x ∷ l) g = rw (any_model x g.0 l g.1, unique_map l g.1)

    pub unique_model : (n : ℕ) (cells : List (List (List ℕ))) → unique index (of_table t (working s n cells)) ≡ unique_cells index (keep (of_t t) (take n cells))
    unfolding working
    unique_model n cells = ap (unique index) (of_map (take n cells)) ∙ unique_map (keep (of_t t) (take n cells)) (all_of (take n cells))

-- ── in cells, one row after another ──
module _ (index : List ℕ) (x : List (List ℕ)) (l : List (List (List ℕ))) where
  pub unique_here : any (same_cells index x) l ≡ true → unique_cells index (x ∷ l) ≡ false
  unique_here e = rw e

  pub unique_on : any (same_cells index x) l ≡ false → unique_cells index (x ∷ l) ≡ unique_cells index l
  unique_on e = rw e
