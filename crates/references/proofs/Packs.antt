-- A schema in cells: how many columns a table has, and which they are. Assumes nothing.
use mathlib.Core.Path.{◌≡◌, refl, sym, ap, ◌∙◌}
use mathlib.Core.List.{List, [], ◌∷◌, map}
use Prim.Native.Nat.{ℕ, zero, suc, ◌+◌, ◌-◌, ◌≤◌, ◌<◌, min}
use native.Mathlib.Nat.{add-zero}
use native.Mathlib.Numerals.{add-one}
use native.Mathlib.Omega.{arith}
use lib.ListN.{length, get_or, take, drop, length-map, length-take, length-drop, get_or-map}
use lib.Seq.{drop-cons, get_or-take, get_or-drop}
use Rattle.model.specs.Limits.{most_columns}
use Rattle.model.specs.Schema.{Column, columns_of}
use Rattle.model.specs.Catalog.{column_from, column_place, table_from, tables_from, packed_tables, database_from, table_count, column_count}
use Rattle.model.proofs.Accepted.{Kept, sane_kept}
use Rattle.model.proofs.Lengths.{narrow_at}
use Rattle.catalog.specs.Accepted.{Accepted}
use Rattle.catalog.proofs.Laws as laws
use Rattle.catalog.proofs.Laws.{few_tables}

module _ (cells : List (List ℕ)) where
  -- tables one after another
  pub tables_on : (t k : ℕ) → t < k → tables_from cells t (k - t) ≡ table_from cells t ∷ tables_from cells (t + 1) (k - (t + 1))
  tables_on t k h = let e : k - t ≡ suc (k - (t + 1)) = omega arith in rw (e, add-one t)

  pub tables_end : (t k : ℕ) → k ≤ t → tables_from cells t (k - t) ≡ []
  tables_end t k h = let e : k - t ≡ 0 = omega arith in rw e

  columns_from_lem : (a k t : ℕ) → t < k → columns_of (tables_from cells a k) t ≡ (table_from cells (a + t)).columns
  columns_from_lem a zero t h = absurd (omega arith)
  columns_from_lem a (suc k) zero h = ap (λ (n : ℕ). (table_from cells n).columns) (sym (add-zero a))
  columns_from_lem a (suc k) (suc t) h =
      let e : suc a + t ≡ a + suc t = omega arith in
      columns_from_lem (suc a) k t (omega arith) ∙ ap (λ (n : ℕ). (table_from cells n).columns) e

  columns_past : (a k t : ℕ) → k ≤ t → columns_of (tables_from cells a k) t ≡ []
  columns_past a zero t h = refl
  columns_past a (suc k) zero h = absurd (omega arith)
  columns_past a (suc k) (suc t) h = columns_past (suc a) k t (omega arith)

  pub columns_in : (t : ℕ) → t < table_count cells → columns_of (packed_tables cells) t ≡ map column_from (take (column_count cells t) (drop (column_place t 0) cells))
  unfolding table_from
  columns_in t h =
      let e : 0 + t ≡ t = omega arith in
      columns_from_lem 0 (table_count cells) t h ∙ ap (λ (n : ℕ). (table_from cells n).columns) e

  pub columns_out : (t : ℕ) → table_count cells ≤ t → columns_of (packed_tables cells) t ≡ []
  columns_out t h = columns_past 0 (table_count cells) t h

  module _ (ok : Accepted cells) where
    kept : Kept (packed_tables cells)
    kept = sane_kept (database_from cells) ok.sane

    pub few_columns_lem : (t : ℕ) → length (columns_of (packed_tables cells) t) ≤ most_columns
    few_columns_lem t = narrow_at (packed_tables cells) t kept.narrow

    pub width_is : (t : ℕ) → t < table_count cells → length (columns_of (packed_tables cells) t) ≡ column_count cells t
    width_is t h =
        let l : length (columns_of (packed_tables cells) t) ≡ min (column_count cells t) (length cells - column_place t 0) =
        ap length (columns_in t h) ∙ length-map (take (column_count cells t) (drop (column_place t 0) cells)) column_from ∙ simp (length-take, length-drop) in
        let n = few_tables cells ok in
        omega (arith, l, laws.few_columns_lem cells ok t (omega (arith, h, n)), n, ok.size)

    -- a table that has a column is one of the tables
    pub has_columns : (t c : ℕ) → c < length (columns_of (packed_tables cells) t) → t < table_count cells
    has_columns t c h = below_of t (table_count cells) (λ g. omega (arith, ap length (columns_out t g)))
      where
        below_of : (a b : ℕ) → (b ≤ a → ⊥) → a < b
        below_of a b f = omega arith

    pub columns_on : (t c : ℕ) → c < length (columns_of (packed_tables cells) t)
        → drop c (columns_of (packed_tables cells) t) ≡ column_from (get_or cells (column_place t c) []) ∷ drop (c + 1) (columns_of (packed_tables cells) t)
    columns_on t c h =
        let b : t < table_count cells = has_columns t c h in
        let w = width_is t b in
        let at : get_or (columns_of (packed_tables cells) t) c (column_from []) ≡ column_from (get_or cells (column_place t c) []) =
        ap (λ (l : List Column). get_or l c (column_from [])) (columns_in t b) ∙ get_or-map column_from (take (column_count cells t) (drop (column_place t 0) cells)) c []
        ∙ ap column_from (get_or-take (column_count cells t) (drop (column_place t 0) cells) c [] (omega (arith, w)) ∙ get_or-drop (column_place t 0) cells c []
        ∙ ap (λ (n : ℕ). get_or cells n []) (omega arith)) in
        drop-cons (columns_of (packed_tables cells) t) c (column_from []) h
        ∙ rw (at, add-one c)
