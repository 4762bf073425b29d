-- A row whose unused counts and cells are zero is the cells of the row that it stands for, and the other way round. Assumes nothing.
use mathlib.Core.Path.{◌≡◌, refl, sym, ap, ◌∙◌}
use mathlib.Core.Bool.{true}
use mathlib.Core.List.{List, [], ◌∷◌, ◌++◌, map, append_assoc}
use Prim.Native.Nat.{ℕ, zero, suc, ◌+◌, ◌-◌, ◌*◌, ◌≤◌}
use native.Mathlib.Omega.{arith}
use borrow.Author.Tests.{eqb-true}
use lib.Dec.{eqb}
use lib.ListN.{length, get_or, take, drop, replicate, length-append, length-drop, take-append-drop}
use lib.Seq.{drop-drop, drop-cons, take-add, drop_at, length-take-le}
use Rattle.model.specs.Octets.{value, part}
use Rattle.model.specs.Base.{all}
use Rattle.model.specs.Schema.{Schema, columns_of}
use Rattle.model.specs.Value.{Value, zeros, blank}
use Rattle.model.specs.Rows.{Row}
use Rattle.model.specs.Areas.{head_cell, atom_cells, row_cells, columns_from, row_from}
use Rattle.inner.specs.Working.{table_in, TidyRow}
use Rattle.model.proofs.Tests.{and_l, and_r}
use Rattle.model.proofs.Lists.{all_head, all_tail, all_take, all_drop, all_same}
use Rattle.model.proofs.Octets.{octet, big_value}
use Rattle.area.specs.Layout.{tidy_from}

-- zeros are just so many zeros
pub zeros_are : (l : List ℕ) → zeros l ≡ true → l ≡ replicate (length l) 0
zeros_are [] h = refl
zeros_are (b ∷ l) h = λ j. eqb-true b 0 (all_head (λ (x : ℕ). eqb x 0) b l h) j ∷ zeros_are l (all_tail (λ (x : ℕ). eqb x 0) b l h) j

-- cells of 25 bytes
abbrev pub Cells : List (List ℕ) → Type 0
Cells [] = Unit
Cells (a ∷ l) = (length a ≡ 25) × Cells l

cells_drop : (n : ℕ) (l : List (List ℕ)) → Cells l → Cells (drop n l)
cells_drop zero l h = h
cells_drop (suc n) [] h = tt
cells_drop (suc n) (a ∷ l) h = cells_drop n l h.1

blanks_are : (l : List (List ℕ)) → Cells l → all zeros l ≡ true → l ≡ replicate (length l) blank
blanks_are [] c h = refl
blanks_are (a ∷ l) c h = λ j. (zeros_are a (all_head zeros a l h) ∙ ap (λ (n : ℕ). replicate n 0) c.0) j ∷ blanks_are l c.1 (all_tail zeros a l h) j

-- the counts and the atoms that k columns read are those that lie there
counts_read : (k : ℕ) (counts : List ℕ) (cells : List (List ℕ)) → k ≤ length counts → map (λ (v : Value). v.count) (columns_from k counts cells) ≡ take k counts
counts_read zero counts cells h = refl
counts_read (suc k) [] cells h = absurd (omega arith)
counts_read (suc k) (x ∷ counts) cells h = ap (λ (l : List ℕ). x ∷ l) (counts_read k counts (drop 4 cells) (omega arith))

atoms_read : (k : ℕ) (counts : List ℕ) (cells : List (List ℕ)) → atom_cells (columns_from k counts cells) ≡ take (4 * k) cells
atoms_read zero counts cells = refl
atoms_read (suc k) counts cells =
    let e : 4 + 4 * k ≡ 4 * suc k = omega arith in
    ap (λ (l : List (List ℕ)). take 4 cells ++ l) (atoms_read k (drop 1 counts) (drop 4 cells)) ∙ sym (take-add 4 (4 * k) cells) ∙ ap (λ (n : ℕ). take n cells) e

columns_count : (k : ℕ) (counts : List ℕ) (cells : List (List ℕ)) → length (columns_from k counts cells) ≡ k
columns_count zero counts cells = refl
columns_count (suc k) counts cells = ap suc (columns_count k (drop 1 counts) (drop 4 cells))

-- the first cell, taken apart
head_parts : (head : List ℕ) (k : ℕ) → length head ≡ 25 → k ≤ 6 → head ≡ get_or head 0 0 ∷ part 1 16 head ++ (take k (drop 17 head) ++ drop (17 + k) head)
head_parts [] k h g = absurd (omega arith)
head_parts (t ∷ l) k h g =
    ap (λ (x : List ℕ). t ∷ x)
    (sym (ap (λ (x : List ℕ). take 16 l ++ x) (ap (λ (x : List ℕ). take k (drop 16 l) ++ x) (tail k) ∙ take-append-drop k (drop 16 l)) ∙ take-append-drop 16 l))
  where
    tail : (k : ℕ) → drop (17 + k) (t ∷ l) ≡ drop k (drop 16 l)
    tail k = sym (drop-drop k 17 (t ∷ l))

first_wide : (l : List (List ℕ)) → length l ≡ 25 → Cells l → length (get_or l 0 []) ≡ 25
first_wide [] h c = absurd (omega arith)
first_wide (a ∷ l) h c = c.0

-- what a row with k columns reads, in cells again: all but what it leaves unused
module _ (cells : List (List ℕ)) (k : ℕ) (few : k ≤ 6) (size : length cells ≡ 25) (wide : Cells cells) (bytes : all octet (get_or cells 0 []) ≡ true) where
  abbrev head : List ℕ
  head = get_or cells 0 []

  abbrev read : Row
  read = record { table = get_or head 0 0; id = value (part 1 16 head); columns = columns_from k (drop 17 head) (drop 1 cells) }

  long : length head ≡ 25
  long = first_wide cells size wide

  read_head : head_cell read ≡ get_or head 0 0 ∷ part 1 16 head ++ (take k (drop 17 head) ++ replicate (8 - k) 0)
  read_head =
      let o : all octet (part 1 16 head) ≡ true = all_take octet 16 (drop 1 head) (all_drop octet 1 head bytes) in
      let n = columns_count k (drop 17 head) (drop 1 cells) in
      λ j. get_or head 0 0 ∷ big_value 16 (part 1 16 head) (length-take-le 16 (drop 1 head) (omega (arith, length-drop 1 head, long))) o j
      ++ (counts_read k (drop 17 head) (drop 1 cells) (omega (arith, length-drop 17 head, long)) j ++ replicate (8 - n j) 0)

  read_cells : row_cells read ≡ head_cell read ∷ take (4 * k) (drop 1 cells) ++ replicate (4 * (6 - k)) blank
  unfolding row_cells
  read_cells =
      let n = columns_count k (drop 17 head) (drop 1 cells) in
      λ j. head_cell read ∷ atoms_read k (drop 17 head) (drop 1 cells) j ++ replicate (4 * (6 - n j)) blank

  -- the unused bytes of the first cell and the unused cells, as they lie in it and as they are made
  head_end : drop (17 + k) (head_cell read) ≡ replicate (8 - k) 0
  head_end =
      let p = get_or head 0 0 ∷ part 1 16 head ++ take k (drop 17 head) in
      let n : length p ≡ 17 + k =
      ap suc (length-append (part 1 16 head) (take k (drop 17 head)))
      ∙ omega (arith, length-take-le 16 (drop 1 head) (omega (arith, length-drop 1 head, long)), length-take-le k (drop 17 head) (omega (arith, length-drop 17 head, long))) in
      ap (drop (17 + k)) (read_head ∙ ap (λ (x : List ℕ). get_or head 0 0 ∷ x) (sym (append_assoc (part 1 16 head) (take k (drop 17 head)) (replicate (8 - k) 0)))) ∙ drop_at p (replicate (8 - k) 0) (17 + k) n

  cells_end : drop (1 + 4 * k) (row_cells read) ≡ replicate (4 * (6 - k)) blank
  cells_end =
      let p = head_cell read ∷ take (4 * k) (drop 1 cells) in
      let n : length p ≡ 1 + 4 * k = omega (arith, length-take-le (4 * k) (drop 1 cells) (omega (arith, length-drop 1 cells, size))) in
      ap (drop (1 + 4 * k)) read_cells ∙ drop_at p (replicate (4 * (6 - k)) blank) (1 + 4 * k) n

  pub tidied : tidy_from k cells ≡ true → row_cells read ≡ cells
  unfolding tidy_from
  tidied h =
      let z = zeros_are (drop (17 + k) head) (and_l (zeros (drop (17 + k) head)) (all zeros (drop (1 + 4 * k) cells)) h) in
      let w = blanks_are (drop (1 + 4 * k) cells) (cells_drop (1 + 4 * k) cells wide) (and_r (zeros (drop (17 + k) head)) (all zeros (drop (1 + 4 * k) cells)) h) in
      let e : length (drop (17 + k) head) ≡ 8 - k = omega (arith, length-drop (17 + k) head, long) in
      let f : length (drop (1 + 4 * k) cells) ≡ 4 * (6 - k) = omega (arith, length-drop (1 + 4 * k) cells, size) in
      let x : head_cell read ≡ head =
      read_head ∙ sym (head_parts head k long few ∙ ap (λ (l : List ℕ). get_or head 0 0 ∷ part 1 16 head ++ (take k (drop 17 head) ++ l)) (z ∙ ap (λ (n : ℕ). replicate n 0) e)) in
      let y : take (4 * k) (drop 1 cells) ++ replicate (4 * (6 - k)) blank ≡ drop 1 cells =
      sym (sym (take-append-drop (4 * k) (drop 1 cells)) ∙ ap (λ (l : List (List ℕ)). take (4 * k) (drop 1 cells) ++ l) (drop-drop (4 * k) 1 cells ∙ w ∙ ap (λ (n : ℕ). replicate n blank) f)) in
      read_cells ∙ (λ j. x j ∷ y j) ∙ sym (drop-cons cells 0 [] (omega (arith, size)))

  pub tidied_back : row_cells read ≡ cells → tidy_from k cells ≡ true
  unfolding tidy_from
  tidied_back h =
      let x : head_cell read ≡ head = ap (λ (c : List (List ℕ)). get_or c 0 []) (sym read_cells ∙ h) in
      let p : zeros (drop (17 + k) head) ≡ true =
      ap (λ (l : List ℕ). zeros (drop (17 + k) l)) (sym x) ∙ ap zeros head_end ∙ all_same (λ (b : ℕ). eqb b 0) (8 - k) 0 refl in
      let q : all zeros (drop (1 + 4 * k) cells) ≡ true =
      ap (λ (l : List (List ℕ)). all zeros (drop (1 + 4 * k) l)) (sym h) ∙ ap (all zeros) cells_end ∙ all_same zeros (4 * (6 - k)) blank refl in
      rw (p, q)

-- the same for the row that cells stand for, by the columns of its table
module _ (s : Schema) (cells : List (List ℕ)) (few : length (columns_of s (table_in cells)) ≤ 6) (size : length cells ≡ 25) (wide : Cells cells) (bytes : all octet (get_or cells 0 []) ≡ true) where
  pub tidy_of : tidy_from (length (columns_of s (table_in cells))) cells ≡ true → TidyRow s cells
  unfolding TidyRow row_from table_in
  tidy_of h = tidied cells (length (columns_of s (table_in cells))) few size wide bytes h

  pub of_tidy : TidyRow s cells → tidy_from (length (columns_of s (table_in cells))) cells ≡ true
  unfolding TidyRow row_from table_in
  of_tidy h = tidied_back cells (length (columns_of s (table_in cells))) few size wide bytes h
