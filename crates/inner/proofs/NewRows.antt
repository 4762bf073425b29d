-- The cells of a new row: table, id, the initial counts, and blank atoms. Assumes nothing.
use mathlib.Core.Path.{◌≡◌, refl, sym, ap, ◌∙◌}
use mathlib.Core.Bool.{true}
use mathlib.Core.List.{List, [], ◌∷◌, ◌++◌, map, map-append, append_assoc}
use Prim.Native.Nat.{ℕ, zero, suc, ◌+◌, ◌-◌, ◌*◌, ◌^◌, ◌≤◌, ◌<◌}
use native.Mathlib.Omega.{arith}
use lib.Dec.{eqb}
use lib.ListN.{length, replicate, length-map, replicate-append-replicate}
use Rattle.model.specs.Octets.{value}
use Rattle.model.specs.Base.{all}
use Rattle.model.specs.Schema.{Column, Schema, columns_of}
use Rattle.model.specs.Value.{Value, blank, initial}
use Rattle.model.specs.Areas.{head_cell, atom_cells, row_cells, row_from}
use Rattle.inner.specs.Working.{minimums, born_count, new_row, TidyRow}
use Rattle.model.proofs.Tests.{split}
use Rattle.model.proofs.Octets.{octet, big_value}
use Rattle.model.proofs.Areas.{Shaped, row_read}

-- counts and atoms of initial values
initial_count : (c : Column) → born_count c.min ≡ (initial c).count
initial_count c = split (eqb c.min 0) (λ e. rw (e, born_count)) (λ e. rw (e, born_count))

initial_atoms : (c : Column) → (initial c).atoms ≡ replicate 4 blank
initial_atoms c = split (eqb c.min 0) (λ e. rw e) (λ e. rw e)

zeros_born : (k : ℕ) → map born_count (replicate k 0) ≡ replicate k 0
zeros_born zero = refl
zeros_born (suc k) = ap (λ (l : List ℕ). 0 ∷ l) (zeros_born k)

counts_born : (cs : List Column) → map born_count (map (λ (c : Column). c.min) cs) ≡ map (λ (v : Value). v.count) (map initial cs)
counts_born [] = refl
counts_born (c ∷ cs) = λ j. initial_count c j ∷ counts_born cs j

blanks : (cs : List Column) → atom_cells (map initial cs) ≡ replicate (4 * length cs) blank
blanks [] = refl
blanks (c ∷ cs) =
    let e : 4 + 4 * length cs ≡ 4 * suc (length cs) = omega arith in
    rw (initial_atoms c, blanks cs) (replicate-append-replicate 4 (4 * length cs) blank ∙ ap (λ (n : ℕ). replicate n blank) e)

module _ (t : ℕ) (id : List ℕ) (cs : List Column) (few : length cs ≤ 6) where
  counts : map born_count (minimums cs) ++ 0 ∷ 0 ∷ [] ≡ map (λ (v : Value). v.count) (map initial cs) ++ replicate (8 - length (map initial cs)) 0
  unfolding minimums
  counts =
      let n = length cs in
      let f : 6 - n + 2 ≡ 8 - length (map initial cs) = omega (arith, length-map cs initial) in
      let l = map (λ (v : Value). v.count) (map initial cs) in
      ap (λ (m : List ℕ). m ++ 0 ∷ 0 ∷ []) (map-append born_count (map (λ (c : Column). c.min) cs) (replicate (6 - n) 0) ∙ (λ j. counts_born cs j ++ zeros_born (6 - n) j))
      ∙ append_assoc l (replicate (6 - n) 0) (0 ∷ 0 ∷ [])
      ∙ ap (λ (m : List ℕ). l ++ m) (replicate-append-replicate (6 - n) 2 0 ∙ ap (λ (k : ℕ). replicate k 0) f)

  pub new_head : length id ≡ 16 → all octet id ≡ true → t ∷ id ++ (map born_count (minimums cs) ++ 0 ∷ 0 ∷ []) ≡ head_cell (new_row t (value id) cs)
  new_head e h = λ j. t ∷ sym (big_value 16 id e h) j ++ counts j

  pub new_cells : (i : ℕ) → head_cell (new_row t i cs) ∷ replicate 24 blank ≡ row_cells (new_row t i cs)
  unfolding row_cells
  new_cells i =
      let n = length cs in
      let f : 4 * n + 4 * (6 - length (map initial cs)) ≡ 24 = omega (arith, length-map cs initial) in
      ap (λ (l : List (List ℕ)). head_cell (new_row t i cs) ∷ l)
      (sym (ap (λ (l : List (List ℕ)). l ++ replicate (4 * (6 - length (map initial cs))) blank) (blanks cs) ∙ replicate-append-replicate (4 * n) (4 * (6 - length (map initial cs))) blank ∙ ap (λ (k : ℕ). replicate k blank) f))

-- the row that the cells of a new row stand for
shaped_initials : (cs : List Column) → Shaped (map initial cs)
shaped_initials [] = tt
shaped_initials (c ∷ cs) = (split (eqb c.min 0) (λ e. rw e) (λ e. rw e), shaped_initials cs)

module _ (s : Schema) (t i : ℕ) (few : length (columns_of s t) ≤ 6) (short : i < 256 ^ 16) where
  pub new_row_read : row_from s (row_cells (new_row t i (columns_of s t))) ≡ new_row t i (columns_of s t)
  new_row_read =
      let n = length-map (columns_of s t) initial in
      row_read s (new_row t i (columns_of s t)) (record { short = short; count = n; narrow = omega arith; shaped = shaped_initials (columns_of s t) })

  pub new_row_tidy : TidyRow s (row_cells (new_row t i (columns_of s t)))
  unfolding TidyRow
  new_row_tidy = ap row_cells new_row_read
