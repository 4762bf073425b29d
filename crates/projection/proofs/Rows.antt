-- The object that is written by flags is the model's, where the flags say what the model's test of names says. Assumes nothing.
use mathlib.Core.Path.{◌≡◌, refl, sym, ap, ◌∙◌}
use mathlib.Core.Bool.{Bool, true, false, not}
use mathlib.Core.List.{List, [], ◌∷◌, ◌++◌, map, append_assoc}
use Prim.Native.Nat.{ℕ, zero, suc, ◌+◌, ◌*◌, ◌<◌, ◌≤◌}
use native.Mathlib.Nat.{add-zero}
use native.Mathlib.Omega.{arith}
use lib.ListN.{length, take, drop, get_or, length-drop, length-map}
use lib.Seq.{drop-cons, drop-drop, get_or-drop, length-take-le}
use Rattle.std.specs.Prelude.{if◌then◌else◌}
use Rattle.model.specs.Base.{ascii}
use Rattle.model.specs.Schema.{Column, Schema, columns_of}
use Rattle.model.specs.Catalog.{base_numbered, column_count}
use Rattle.model.specs.Catalog.{entry_name, column_from, column_place, table_from}
use Rattle.model.specs.Value.{Value}
use Rattle.model.specs.Areas.{columns_from, row_from}
use Rattle.inner.specs.Working.{table_in, id_in, value_in}
use Rattle.model.specs.Operations.{shown_columns, row_text}
use Rattle.model.specs.Answers.{member_text, value_text}
use Rattle.json_writer.specs.Texts.{comma_text, joined}
use Rattle.json_writer.proofs.Joins.{joined_commas}
use Rattle.projection.proofs.Columns.{listed}
use Rattle.projection.specs.Shown.{column_text, row_id_text, shown_text, shown_from, row_shown}

choose : (b : Bool) (x y : List ℕ) (r q : List (List ℕ)) → x ≡ y → r ≡ q → listed b x r ≡ (if b then y ∷ q else q)
choose true x y r q e f = ap (λ (t : List ℕ). t ∷ r) e ∙ ap (λ (l : List (List ℕ)). y ∷ l) f
choose false x y r q e f = f

module _ (show : List ℕ → Bool) (schema : List (List ℕ)) (from : ℕ) (row : List (List ℕ)) (shown : List Bool) where
  -- the columns from c on
  pub columns_shown : (k c : ℕ) → from + c + k ≤ length schema → ((j : ℕ) → j < c + k → get_or shown (j + 1) false ≡ show (entry_name (get_or schema (from + j) [])))
      → shown_from schema from row shown c k ≡ shown_columns show (map column_from (take k (drop (from + c) schema))) (columns_from k (drop (17 + c) (get_or row 0 [])) (drop (1 + 4 * c) row))
  unfolding column_text value_in
  columns_shown zero c h f = refl
  columns_shown (suc k) c h f =
      let head = get_or row 0 [] in
      let cell = get_or schema (from + c) [] in
      let v : Value = record { count = get_or (drop (17 + c) head) 0 0; atoms = take 4 (drop (1 + 4 * c) row) } in
      let e1 : from + suc c ≡ suc (from + c) = omega arith in
      let e2 : 17 + suc c ≡ 17 + c + 1 = omega arith in
      let e3 : 1 + 4 * suc c ≡ 1 + 4 * c + 4 = omega arith in
      let rest : List (List ℕ) = shown_columns show (map column_from (take k (drop (suc (from + c)) schema))) (columns_from k (drop 1 (drop (17 + c) head)) (drop 4 (drop (1 + 4 * c) row))) in
      let later : shown_from schema from row shown (suc c) k ≡ rest =
      columns_shown k (suc c) (omega arith) (λ j g. f j (omega arith))
      ∙ ap (λ (n : ℕ). shown_columns show (map column_from (take k (drop n schema))) (columns_from k (drop (17 + suc c) head) (drop (1 + 4 * suc c) row))) e1
      ∙ ap (λ (l : List ℕ). shown_columns show (map column_from (take k (drop (suc (from + c)) schema))) (columns_from k l (drop (1 + 4 * suc c) row))) (ap (λ (n : ℕ). drop n head) e2 ∙ sym (drop-drop 1 (17 + c) head))
      ∙ ap (λ (l : List (List ℕ)). shown_columns show (map column_from (take k (drop (suc (from + c)) schema))) (columns_from k (drop 1 (drop (17 + c) head)) l)) (ap (λ (n : ℕ). drop n row) e3 ∙ sym (drop-drop 4 (1 + 4 * c) row)) in
      let same : column_text cell row c ≡ member_text (entry_name cell) (value_text (base_numbered (get_or cell 25 0)) v) =
      ap (λ (n : ℕ). member_text (entry_name cell) (value_text (base_numbered (get_or cell 25 0)) (record { count = n; atoms = take 4 (drop (1 + 4 * c) row) })))
      (sym (get_or-drop (17 + c) head 0 0 ∙ ap (λ (n : ℕ). get_or head n 0) (add-zero (17 + c)))) in
      ap (λ (b : Bool). listed b (column_text cell row c) (shown_from schema from row shown (suc c) k)) (f c (omega arith))
      ∙ choose (show (entry_name cell)) (column_text cell row c) (member_text (entry_name cell) (value_text (base_numbered (get_or cell 25 0)) v)) (shown_from schema from row shown (suc c) k) rest same later
      ∙ ap (λ (l : List (List ℕ)). shown_columns show (map column_from (take (suc k) l)) (columns_from (suc k) (drop (17 + c) head) (drop (1 + 4 * c) row))) (sym (drop-cons schema (from + c) [] (omega arith)))

-- the id, and the columns after it
headed : (b : Bool) (x : List ℕ) (l : List (List ℕ)) → shown_text b true x ++ joined (not b) l ≡ joined true ((if b then x ∷ [] else []) ++ l)
unfolding shown_text
headed true x l = append_assoc (comma_text true) x (joined false l)
headed false x l = refl

module _ (show : List ℕ → Bool) (s : Schema) (schema : List (List ℕ)) (t : ℕ) (row : List (List ℕ)) (shown : List Bool) where
  -- what is written is a row's object of the model, of the columns whose names pass
  pub row_text_lem : columns_of s (table_in row) ≡ (table_from schema t).columns
      → get_or shown 0 false ≡ show (ascii "_uuid")
      → ((j : ℕ) → j < column_count schema t → get_or shown (j + 1) false ≡ show (entry_name (get_or schema (column_place t 0 + j) [])))
      → column_place t 0 + column_count schema t ≤ length schema
      → row_shown schema t row shown ≡ row_text show (table_from schema t).columns (row_from s row)
  unfolding row_shown row_from table_from table_in row_id_text id_in
  row_text_lem same id flags fits =
      let n = column_count schema t in
      let from = column_place t 0 in
      let cs : List Column = map column_from (take n (drop from schema)) in
      let x = row_id_text row in
      let b = show (ascii "_uuid") in
      let f = shown_from schema from row shown 0 n in
      let g : List (List ℕ) = shown_columns show cs (row_from s row).columns in
      let size : length (columns_of s (table_in row)) ≡ n = ap length same ∙ length-map (take n (drop from schema)) column_from ∙ length-take-le n (drop from schema) (omega (arith, length-drop from schema)) in
      let fg : f ≡ g =
      columns_shown show schema from row shown n 0 (omega arith) (λ j h. flags j (omega arith))
      ∙ ap (λ (k : ℕ). shown_columns show (map column_from (take n (drop k schema))) (columns_from n (drop 17 (get_or row 0 [])) (drop 1 row))) (add-zero from)
      ∙ ap (λ (k : ℕ). shown_columns show cs (columns_from k (drop 17 (get_or row 0 [])) (drop 1 row))) (sym size) in
      ap (λ (a : Bool). 123 ∷ (shown_text a true x ++ (joined (not a) f ++ (125 ∷ [])))) id
      ∙ ap (λ (l : List (List ℕ)). 123 ∷ (shown_text b true x ++ (joined (not b) l ++ (125 ∷ [])))) fg
      ∙ ap (λ (w : List ℕ). 123 ∷ w) (sym (append_assoc (shown_text b true x) (joined (not b) g) (125 ∷ [])))
      ∙ ap (λ (w : List ℕ). 123 ∷ (w ++ (125 ∷ []))) (headed b x g ∙ joined_commas ((if b then x ∷ [] else []) ++ g))
