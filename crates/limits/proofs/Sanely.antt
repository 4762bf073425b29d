-- The indexes of an accepted schema, by the bytes of a table's cell. Assumes nothing.
use mathlib.Core.Path.{◌≡◌, sym, ap}
use mathlib.Core.Bool.{Bool, true}
use mathlib.Core.List.{List, [], ◌∷◌}
use Prim.Native.Nat.{ℕ, zero, suc, ◌+◌, ◌≤◌, ◌<◌}
use native.Mathlib.Nat.{add-zero}
use native.Mathlib.Omega.{arith}
use borrow.Author.Tests.{ltb-true}
use lib.Dec.{ltb}
use lib.ListN.{length, get_or, take}
use Rattle.model.specs.Limits.{most_columns}
use Rattle.model.specs.Base.{all}
use Rattle.model.specs.Schema.{Table, columns_of}
use Rattle.model.specs.Catalog.{table_place, table_from, tables_from, packed_tables, index_from, indexes_from, database_from, table_count, indexes_offset, first_index_offset, second_index_offset}
use Rattle.model.specs.Sane.{sane_table, table_sane, sane_index, index_sane, sane, database_sane}
use Rattle.model.proofs.Tests.{parts}
use Rattle.model.proofs.Lists.{all_head, all_tail, all_at}
use Rattle.catalog.specs.Accepted.{Accepted}
use Rattle.references.proofs.Packs.{columns_in, few_columns_lem}
use Rattle.limits.specs.Alike.{IndexFits}

-- an index of columns below w
abbrev pub Below : ℕ → List ℕ → Type 0
Below w index = all (λ (c : ℕ). ltb c w) index ≡ true

-- what is known of a sane index
index_below : (w : ℕ) (l : List ℕ) → sane_index w l ≡ true → Below w l
unfolding sane_index
index_below w l h = (parts (index_sane w l) h).1.1.0

index_fits_lem : (w : ℕ) (l : List ℕ) → w ≤ most_columns → Below w l → IndexFits l
index_fits_lem w l f h = record { columns = λ k g. omega (arith, f, ltb-true (get_or l k 0) w (all_at (λ (c : ℕ). ltb c w) l k 0 h g)) }

module _ (cells : List (List ℕ)) (t : ℕ) where
  abbrev pub cell_at : List ℕ
  cell_at = get_or cells (table_place t) []

  abbrev pub width_at : ℕ
  width_at = length (columns_of (packed_tables cells) t)

module _ (cells : List (List ℕ)) (ok : Accepted cells) (t : ℕ) (h : t < table_count cells) where
  abbrev cell_of : List ℕ
  cell_of = cell_at cells t

  abbrev width_of : ℕ
  width_of = width_at cells t

  table_at : (q : Table → Bool) (a k u : ℕ) → u < k → all q (tables_from cells a k) ≡ true → q (table_from cells (a + u)) ≡ true
  table_at q a zero u g e = absurd (omega arith)
  table_at q a (suc k) zero g e = rw (add-zero a) (all_head q (table_from cells a) (tables_from cells (suc a) k) e)
  table_at q a (suc k) (suc u) g e =
      let m : a + suc u ≡ suc a + u = omega arith in
      rw m (table_at q (suc a) k u (omega arith) (all_tail q (table_from cells a) (tables_from cells (suc a) k) e))

  sane_table_lem : sane_table (length (packed_tables cells)) (table_from cells t) ≡ true
  unfolding sane
  sane_table_lem =
      let e : 0 + t ≡ t = omega arith in
      rw e at (table_at (sane_table (length (packed_tables cells))) 0 (table_count cells) t h (parts (database_sane (database_from cells)) ok.sane).1.1.0)

  sane_indexes : all (sane_index (length (table_from cells t).columns)) (indexes_from cell_of) ≡ true
  unfolding sane_table table_from
  sane_indexes = (parts (table_sane (length (packed_tables cells)) (table_from cells t)) sane_table_lem).1.1.1.1.0

  width_same : length (table_from cells t).columns ≡ width_of
  unfolding table_from
  width_same = sym (ap length (columns_in cells t h))

  first : (w m : ℕ) (i j : List ℕ) → 0 < m → all (sane_index w) (take m (i ∷ j ∷ [])) ≡ true → sane_index w i ≡ true
  first w zero i j g e = absurd (omega arith)
  first w (suc m) i j g e = all_head (sane_index w) i (take m (j ∷ [])) e

  second : (w m : ℕ) (i j : List ℕ) → 1 < m → all (sane_index w) (take m (i ∷ j ∷ [])) ≡ true → sane_index w j ≡ true
  second w zero i j g e = absurd (omega arith)
  second w (suc zero) i j g e = absurd (omega arith)
  second w (suc (suc m)) i j g e = all_head (sane_index w) j (take m []) (all_tail (sane_index w) i (j ∷ take m []) e)

  fits : (index : List ℕ) → sane_index (length (table_from cells t).columns) index ≡ true → IndexFits index × Below width_of index
  fits index e =
      let b : Below width_of index = index_below width_of index (rw width_same at e) in
      (index_fits_lem width_of index (few_columns_lem cells ok t) b, b)

  abbrev count : ℕ
  count = get_or cell_of indexes_offset 0

  abbrev one : List ℕ
  one = index_from cell_of first_index_offset

  abbrev two : List ℕ
  two = index_from cell_of second_index_offset

  pub fits_first : 0 < count → IndexFits one × Below width_of one
  fits_first g = fits one (first (length (table_from cells t).columns) count one two g sane_indexes)

  pub fits_second : 1 < count → IndexFits two × Below width_of two
  fits_second g = fits two (second (length (table_from cells t).columns) count one two g sane_indexes)
