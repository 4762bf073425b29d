-- The rows that are answered are the model's: those that meet the conditions, each that shows what an earlier one shows left out. Assumes nothing.
use mathlib.Core.Path.{◌≡◌, refl, sym, ap, ◌∙◌}
use mathlib.Core.Bool.{Bool, true, false, not, ◌&&◌, ◌||◌}
use mathlib.Core.List.{List, [], ◌∷◌, ◌++◌, map, append_assoc}
use Prim.Native.Nat.{ℕ, zero, suc, ◌+◌, ◌-◌, ◌*◌, ◌≤◌, ◌<◌}
use native.Mathlib.Nat.{add-zero}
use native.Mathlib.Numerals.{add-one}
use native.Mathlib.Omega.{arith}
use borrow.Author.Tests.{eqb-true}
use lib.Dec.{eqb}
use lib.ListN.{length, get_or, take, drop, length-map, length-drop, get_or-map, drop_of_length-le}
use lib.Seq.{drop-cons, get_or-take, get_or-drop, length-take-le, take-length}
use Rattle.std.specs.Prelude.{if◌then◌else◌}
use Rattle.model.specs.Base.{any, all, keep, ascii}
use Rattle.model.specs.Schema.{Column, Schema, columns_of}
use Rattle.model.specs.Value.{same_value}
use Rattle.model.specs.Rows.{Row}
use Rattle.model.specs.Conditions.{Test, holds, matches}
use Rattle.model.specs.Operations.{row_text, same_columns, same_shown, firsts}
use Rattle.model.specs.Areas.{row_from}
use Rattle.model.specs.Catalog.{entry_name, column_from, column_place, table_from, packed_tables}
use Rattle.model.specs.Answers.{rows_text}
use Rattle.inner.specs.Working.{working, table_in, id_in, value_in}
use Rattle.model.proofs.Tests.{split, and_l}
use Rattle.inner.proofs.Working.{row_table, row_id, working_on, working_end}
use Rattle.references.proofs.Links.{values_on}
use Rattle.json_writer.specs.Put.{Put}
use Rattle.json_writer.specs.Texts.{comma_text, joined}
use Rattle.json_writer.proofs.Putting.{put_is}
use Rattle.json_writer.proofs.Joins.{rows_is}
use Rattle.catalog.specs.Entries.{columns_at}
use Rattle.area.proofs.Schemas.{columns_in}
use Rattle.projection.specs.Shown.{shown_text, row_shown}
use Rattle.projection.proofs.Rows.{row_text_lem}
use Rattle.selection.specs.Shown.{Flagged}
use Rattle.marks.specs.Marks.{MarkedRows}
use Rattle.selection.specs.Picks.{same_from, same_by, repeated, picked, picked_from, selected, Selected}

-- ── two rows that show the same ──
module _ (show : List ℕ → Bool) (cells : List (List ℕ)) (flags : List Bool) (fl : Flagged show cells flags) (s : Schema) (x y : List (List ℕ))
    (ex : columns_of s (table_in x) ≡ map column_from cells) (ey : columns_of s (table_in y) ≡ map column_from cells) where
  columns_same : (k c : ℕ) → c + k ≡ length cells → same_from flags x y c k ≡ same_columns show (drop c (map column_from cells)) (drop c (row_from s x).columns) (drop c (row_from s y).columns)
  columns_same zero c h =
      sym (ap (λ (l : List Column). same_columns show l (drop c (row_from s x).columns) (drop c (row_from s y).columns)) (drop_of_length-le (map column_from cells) {i = c} (omega (arith, length-map cells column_from))))
  columns_same (suc k) c h =
      let l : c < length cells = omega arith in
      let m = length-map cells column_from in
      let dc : drop c (map column_from cells) ≡ column_from (get_or cells c []) ∷ drop (suc c) (map column_from cells) =
      drop-cons (map column_from cells) c (column_from []) (omega arith) ∙ ap (λ (z : Column). z ∷ drop (suc c) (map column_from cells)) (get_or-map column_from cells c []) in
      let dx : drop c (row_from s x).columns ≡ value_in c x ∷ drop (suc c) (row_from s x).columns =
      values_on s x c (omega (arith, ap length ex)) ∙ ap (λ (z : ℕ). value_in c x ∷ drop z (row_from s x).columns) (add-one c) in
      let dy : drop c (row_from s y).columns ≡ value_in c y ∷ drop (suc c) (row_from s y).columns =
      values_on s y c (omega (arith, ap length ey)) ∙ ap (λ (z : ℕ). value_in c y ∷ drop z (row_from s y).columns) (add-one c) in
      (λ i. (not (fl.column c l i) || same_value (value_in c x) (value_in c y)) && columns_same k (suc c) (omega arith) i)
      ∙ sym (λ i. same_columns show (dc i) (dx i) (dy i))

  same_is : same_by flags (length cells) x y ≡ same_shown show (map column_from cells) (row_from s x) (row_from s y)
  unfolding same_by
  same_is =
      (λ i. (not (fl.id i) || eqb (id_in x) (id_in y)) && columns_same (length cells) 0 (omega arith) i)
      ∙ (λ i. (not (show (ascii "_uuid")) || eqb (sym (row_id s x) i) (sym (row_id s y) i)) && same_columns show (map column_from cells) (row_from s x).columns (row_from s y).columns)

-- ── one row more ──
module _ (same : Row → Row → Bool) (text : Row → List ℕ) where
  step : (b g : Bool) (r : Row) (before rest : List Row) (t : List ℕ) (tail : List (List ℕ)) → (b ≡ true → any (same r) before ≡ g) → (b ≡ true → t ≡ text r)
      → tail ≡ map text (firsts same (if b then r ∷ before else before) rest)
      → elim (b && not g) [ true ↦ t ∷ tail | false ↦ tail ] ≡ map text (firsts same before (if b then r ∷ rest else rest))
  step false g r before rest t tail q e h = h
  step true true r before rest t tail q e h =
      h ∙ sym (ap (λ (b : Bool). map text (elim b [ true ↦ firsts same (r ∷ before) rest | false ↦ r ∷ firsts same (r ∷ before) rest ])) (q refl))
  step true false r before rest t tail q e h =
      (λ i. e refl i ∷ h i) ∙ sym (ap (λ (b : Bool). map text (elim b [ true ↦ firsts same (r ∷ before) rest | false ↦ r ∷ firsts same (r ∷ before) rest ])) (q refl))

-- the rows before a place that pass, the last first
abbrev earlier : (Row → Bool) → Schema → List (List (List ℕ)) → ℕ → List Row
earlier fits s rows zero = []
earlier fits s rows (suc i) = if fits (row_from s (get_or rows i [])) then row_from s (get_or rows i []) ∷ earlier fits s rows i else earlier fits s rows i

module _ (schema cells : List (List ℕ)) (t : ℕ) (show : List ℕ → Bool) (flags marks : List Bool) (rows : List (List (List ℕ))) (n : ℕ) (room : n ≤ length rows) (s : Schema) (ts : List Test)
    (fl : Flagged show cells flags) (here : columns_of s t ≡ map column_from cells) (mk : (i : ℕ) → i < n → get_or marks i false ≡ matches t ts (row_from s (get_or rows i [])))
    (shown : (row : List (List ℕ)) → columns_of s (table_in row) ≡ map column_from cells → row_shown schema t row flags ≡ row_text show (map column_from cells) (row_from s row)) where
  abbrev row : ℕ → Row
  row i = row_from s (get_or rows i [])

  of_table_lem : (i : ℕ) → matches t ts (row i) ≡ true → columns_of s (table_in (get_or rows i [])) ≡ map column_from cells
  of_table_lem i e =
      ap (columns_of s) (sym (eqb-true t (row i).table (and_l (eqb t (row i).table) (all (holds (row i)) ts) e) ∙ row_table s (get_or rows i []))) ∙ here

  abbrev before : ℕ → List Row
  before i = earlier (matches t ts) s rows i

  -- whether an earlier one shows the same
  again_is : (x : List (List ℕ)) → columns_of s (table_in x) ≡ map column_from cells → (j : ℕ) → j ≤ n → any (same_shown show (map column_from cells) (row_from s x)) (before j) ≡ repeated flags (length cells) marks rows x j
  again_is x e zero h = refl
  again_is x e (suc j) h = split (matches t ts (row j))
      (λ b.
      ap (λ (c : Bool). any (same_shown show (map column_from cells) (row_from s x)) (if c then row j ∷ before j else before j)) b
      ∙ (λ i. sym (same_is show cells flags fl s x (get_or rows j []) e (of_table_lem j b)) i || again_is x e j (omega arith) i)
      ∙ sym (ap (λ (c : Bool). (c && same_by flags (length cells) x (get_or rows j [])) || repeated flags (length cells) marks rows x j) (mk j (omega arith) ∙ b)))
      (λ b.
      ap (λ (c : Bool). any (same_shown show (map column_from cells) (row_from s x)) (if c then row j ∷ before j else before j)) b
      ∙ again_is x e j (omega arith)
      ∙ sym (ap (λ (c : Bool). (c && same_by flags (length cells) x (get_or rows j [])) || repeated flags (length cells) marks rows x j) (mk j (omega arith) ∙ b)))

  pub picks_are : (m i : ℕ) → i + m ≡ n
      → picked_from schema t flags (length cells) marks rows i m ≡ map (row_text show (map column_from cells)) (firsts (same_shown show (map column_from cells)) (before i) (keep (matches t ts) (drop i (working s n rows))))
  unfolding picked
  picks_are zero i h =
      sym (ap (λ (l : List Row). map (row_text show (map column_from cells)) (firsts (same_shown show (map column_from cells)) (before i) (keep (matches t ts) l))) (working_end s rows n room i (omega arith)))
  picks_are (suc m) i h =
      let l : i < n = omega arith in
      let w : drop i (working s n rows) ≡ row i ∷ drop (suc i) (working s n rows) = working_on s rows n room i l ∙ ap (λ (z : ℕ). row i ∷ drop z (working s n rows)) (add-one i) in
      let tail = picked_from schema t flags (length cells) marks rows (suc i) m in
      let object = row_shown schema t (get_or rows i []) flags in
      ap (λ (c : Bool). elim (c && not (repeated flags (length cells) marks rows (get_or rows i []) i)) [ true ↦ object ∷ tail | false ↦ tail ]) (mk i l)
      ∙ step (same_shown show (map column_from cells)) (row_text show (map column_from cells)) (matches t ts (row i)) (repeated flags (length cells) marks rows (get_or rows i []) i) (row i) (before i) (keep (matches t ts) (drop (suc i) (working s n rows))) object tail
      (λ e. again_is (get_or rows i []) (of_table_lem i e) i (omega arith)) (λ e. shown (get_or rows i []) (of_table_lem i e)) (picks_are m (suc i) (omega arith))
      ∙ sym (ap (λ (z : List Row). map (row_text show (map column_from cells)) (firsts (same_shown show (map column_from cells)) (before i) (keep (matches t ts) z))) w)

-- ── the objects written one after another ──
due_step : (pick first : Bool) (t : List ℕ) (rest : List (List ℕ)) → joined first (elim pick [ true ↦ t ∷ rest | false ↦ rest ]) ≡ shown_text pick first t ++ joined (not pick && first) rest
unfolding shown_text
due_step true first t rest = sym (append_assoc (comma_text first) t (joined false rest))
due_step false first t rest = refl

module _ (schema : List (List ℕ)) (t : ℕ) (flags : List Bool) (k : ℕ) (marks : List Bool) (rows : List (List (List ℕ))) (first : Bool) (i n : ℕ) where
  pub rows_next : i < n → {again : Bool} → again ≡ repeated flags k marks rows (get_or rows i []) i
      → joined first (picked_from schema t flags k marks rows i (n - i)) ≡ shown_text (get_or marks i false && not again) first (row_shown schema t (get_or rows i []) flags) ++ joined (not (get_or marks i false && not again) && first) (picked_from schema t flags k marks rows (i + 1) (n - (i + 1)))
  unfolding picked
  rows_next h {again} e =
      let z : n - i ≡ suc (n - (i + 1)) = omega arith in
      let q : picked_from schema t flags k marks rows (suc i) (n - (i + 1)) ≡ picked_from schema t flags k marks rows (i + 1) (n - (i + 1)) = ap (λ (j : ℕ). picked_from schema t flags k marks rows j (n - (i + 1))) (sym (add-one i)) in
      ap (λ (m : ℕ). joined first (picked_from schema t flags k marks rows i m)) z
      ∙ ap (λ (b : Bool). joined first (elim (get_or marks i false && not b) [ true ↦ row_shown schema t (get_or rows i []) flags ∷ picked_from schema t flags k marks rows (suc i) (n - (i + 1)) | false ↦ picked_from schema t flags k marks rows (suc i) (n - (i + 1)) ])) (sym e)
      ∙ due_step (get_or marks i false && not again) first (row_shown schema t (get_or rows i []) flags) (picked_from schema t flags k marks rows (suc i) (n - (i + 1)))
      ∙ ap (λ (l : List (List ℕ)). shown_text (get_or marks i false && not again) first (row_shown schema t (get_or rows i []) flags) ++ joined (not (get_or marks i false && not again) && first) l) q

  pub rows_end : n ≤ i → joined first (picked_from schema t flags k marks rows i (n - i)) ≡ []
  rows_end h = let e : n - i ≡ 0 = omega arith in ap (λ (m : ℕ). joined first (picked_from schema t flags k marks rows i m)) e

-- ── two rows compared column by column ──
not_not : (b : Bool) → not (not b) ≡ b
not_not true = refl
not_not false = refl

module _ (flags : List Bool) (x y : List (List ℕ)) (c k : ℕ) where
  pub columns_step : c < k → {d : Bool} → d ≡ not (not (get_or flags (c + 1) false) || same_value (value_in c x) (value_in c y)) → same_from flags x y c (k - c) ≡ (not d && same_from flags x y (c + 1) (k - (c + 1)))
  columns_step h {d} e =
      let z : k - c ≡ suc (k - (c + 1)) = omega arith in
      let p = not (get_or flags (c + 1) false) || same_value (value_in c x) (value_in c y) in
      ap (same_from flags x y c) z ∙ ap (λ (b : Bool). b && same_from flags x y (suc c) (k - (c + 1))) (sym (not_not p) ∙ ap not (sym e)) ∙ ap (λ (j : ℕ). not d && same_from flags x y j (k - (c + 1))) (sym (add-one c))

  pub columns_end : k ≤ c → same_from flags x y c (k - c) ≡ true
  columns_end h = let z : k - c ≡ 0 = omega arith in ap (same_from flags x y c) z

-- ── two rows by their flags ──
module _ (flags : List Bool) (k : ℕ) (x y : List (List ℕ)) where
  by_flag : {b : Bool} → get_or flags 0 false ≡ b → same_by flags k x y ≡ ((not b || eqb (id_in x) (id_in y)) && same_from flags x y 0 k)
  unfolding same_by
  by_flag e = ap (λ (b : Bool). (not b || eqb (id_in x) (id_in y)) && same_from flags x y 0 k) e

  pub same_yes : get_or flags 0 false ≡ true → {i : Bool} → i ≡ eqb (id_in x) (id_in y) → i ≡ true → {r : Bool} → r ≡ same_from flags x y 0 k → r ≡ same_by flags k x y
  same_yes f ei e er = er ∙ sym (by_flag f ∙ ap (λ (b : Bool). b && same_from flags x y 0 k) (sym ei ∙ e))

  pub same_no : get_or flags 0 false ≡ true → {i : Bool} → i ≡ eqb (id_in x) (id_in y) → i ≡ false → false ≡ same_by flags k x y
  same_no f ei e = sym (by_flag f ∙ ap (λ (b : Bool). b && same_from flags x y 0 k) (sym ei ∙ e))

  pub same_hidden : get_or flags 0 false ≡ false → {r : Bool} → r ≡ same_from flags x y 0 k → r ≡ same_by flags k x y
  same_hidden f er = er ∙ sym (by_flag f)

-- ── the marked rows before a place, from the last to the first ──
module _ (flags : List Bool) (k : ℕ) (marks : List Bool) (rows : List (List (List ℕ))) (x : List (List ℕ)) (j : ℕ) where
  pub again_step : 0 < j → {d : Bool} → d ≡ (get_or marks (j - 1) false && same_by flags k x (get_or rows (j - 1) [])) → repeated flags k marks rows x j ≡ (d || repeated flags k marks rows x (j - 1))
  again_step h {d} e =
      let z : j ≡ suc (j - 1) = omega arith in
      ap (repeated flags k marks rows x) z ∙ ap (λ (b : Bool). b || repeated flags k marks rows x (j - 1)) (sym e)

  pub again_end : j ≤ 0 → repeated flags k marks rows x j ≡ false
  again_end h = let z : j ≡ 0 = omega arith in ap (repeated flags k marks rows x) z

-- ── the whole answer ──
module _ (schema : List (List ℕ)) (t : ℕ) (size : length schema ≡ 29) (few : get_or (get_or schema (1 + t) []) 25 0 ≤ 6) (four : t < 4) where
  cells_count : length (columns_at schema t) ≡ get_or (get_or schema (1 + t) []) 25 0
  cells_count = length-take-le (get_or (get_or schema (1 + t) []) 25 0) (drop (5 + 6 * t) schema) (omega (arith, length-drop (5 + 6 * t) schema))

  table_columns_lem : (table_from schema t).columns ≡ map column_from (columns_at schema t)
  unfolding table_from
  table_columns_lem = ap (λ (z : ℕ). map column_from (take (get_or (get_or schema (1 + t) []) 25 0) (drop z schema))) (add-zero (5 + 6 * t))

  cell_at : (j : ℕ) → j < get_or (get_or schema (1 + t) []) 25 0 → get_or (columns_at schema t) j [] ≡ get_or schema (column_place t 0 + j) []
  cell_at j h =
      get_or-take (get_or (get_or schema (1 + t) []) 25 0) (drop (5 + 6 * t) schema) j [] h ∙ get_or-drop (5 + 6 * t) schema j []
      ∙ ap (λ (z : ℕ). get_or schema (z + j) []) (sym (add-zero (5 + 6 * t)))

  module _ (show : List ℕ → Bool) (flags : List Bool) (fl : Flagged show (columns_at schema t) flags) (s : Schema) where
    object_is : (row : List (List ℕ)) → columns_of s (table_in row) ≡ map column_from (columns_at schema t) → row_shown schema t row flags ≡ row_text show (map column_from (columns_at schema t)) (row_from s row)
    object_is row e =
        row_text_lem show s schema t row flags (e ∙ sym table_columns_lem) fl.id
        (λ j h. fl.column j (omega (arith, cells_count)) ∙ ap (λ (x : List ℕ). show (entry_name x)) (cell_at j h))
        (omega arith)
        ∙ ap (λ (l : List Column). row_text show l (row_from s row)) table_columns_lem

answer_is : (schema : List (List ℕ)) (t : ℕ) → length schema ≡ 29 → get_or (get_or schema (1 + t) []) 25 0 ≤ 6 → t < 4 → t < get_or (get_or schema 0 []) 25 0 → (rows : List (List (List ℕ))) (flags marks : List Bool) (show : List ℕ → Bool) (ts : List Test)
    → Flagged show (columns_at schema t) flags → MarkedRows (columns_of (packed_tables schema) t) ts t (length rows) rows marks
    → (ascii "{\"rows\":[" ++ (joined true (picked_from schema t flags (length (columns_at schema t)) marks rows 0 (length rows)) ++ ascii "]}")) ≡ selected show (columns_of (packed_tables schema) t) t ts (map (row_from (packed_tables schema)) rows)
unfolding MarkedRows selected working
answer_is schema t size few four lt rows flags marks show ts fl mk =
    let s = packed_tables schema in
    let cs = map column_from (columns_at schema t) in
    let here : columns_of s t ≡ cs = columns_in schema t lt in
    ap (λ (l : List (List ℕ)). ascii "{\"rows\":[" ++ (joined true l ++ ascii "]}"))
    (picks_are schema (columns_at schema t) t show flags marks rows (length rows) (omega arith) s ts fl here (mk s refl) (object_is schema t size few four show flags fl s) (length rows) 0 (omega arith))
    ∙ rows_is (map (row_text show cs) (firsts (same_shown show cs) [] (keep (matches t ts) (working s (length rows) rows))))
    ∙ ap (λ (l : List Column). rows_text (map (row_text show l) (firsts (same_shown show l) [] (keep (matches t ts) (working s (length rows) rows))))) (sym here)
    ∙ ap (λ (l : List (List (List ℕ))). rows_text (map (row_text show (columns_of s t)) (firsts (same_shown show (columns_of s t)) [] (keep (matches t ts) (map (row_from s) l))))) (take-length rows)

-- what is written
pub select_is : (schema : List (List ℕ)) (t : ℕ) → length schema ≡ 29 → get_or (get_or schema (1 + t) []) 25 0 ≤ 6 → t < 4 → t < get_or (get_or schema 0 []) 25 0 → (rows : List (List (List ℕ))) (flags marks : List Bool) {before after : List ℕ} {at r : ℕ}
    → Put 200000 before at (ascii "{\"rows\":[" ++ (joined true (picked_from schema t flags (length (columns_at schema t)) marks rows 0 (length rows)) ++ ascii "]}")) r after → Selected schema t rows flags marks before at r after
unfolding Selected
select_is schema t size few four lt rows flags marks q show ts fl mk = put_is q (answer_is schema t size few four lt rows flags marks show ts fl mk) (omega arith)
