-- Members of a row's object, one after another. Assumes nothing.
use mathlib.Core.Path.{◌≡◌, refl, sym, ap, ◌∙◌}
use mathlib.Core.Bool.{Bool, true, false, not, ◌&&◌}
use mathlib.Core.List.{List, [], ◌∷◌, ◌++◌, append_assoc}
use Prim.Native.Nat.{ℕ, suc, ◌+◌, ◌*◌, ◌-◌, ◌<◌, ◌≤◌}
use native.Mathlib.Nat.{add-zero}
use native.Mathlib.Numerals.{add-one}
use native.Mathlib.Omega.{arith}
use lib.ListN.{get_or}
use Rattle.model.specs.Octets.{part}
use Rattle.model.specs.Base.{ascii}
use Rattle.model.specs.Catalog.{entry_name, column_count}
use Rattle.inner.specs.Working.{id_in, value_in}
use Rattle.model.specs.Answers.{quoted}
use Rattle.json_writer.specs.Texts.{quoted_text, id_text, set_text, comma_text, joined}
use Rattle.projection.specs.Shown.{name_text, column_text, row_id_text, shown_text, shown_from, row_shown}

pub colon_is : (name : List ℕ) → (quoted_text name ++ (58 ∷ [])) ≡ name_text name
unfolding quoted_text name_text
colon_is name = refl

pub column_is : (cell : List ℕ) (row : List (List ℕ)) (c count : ℕ) (atoms : List (List ℕ)) → count ≡ (value_in c row).count → atoms ≡ (value_in c row).atoms
    → (name_text (entry_name cell) ++ set_text (get_or cell 25 0) count atoms) ≡ column_text cell row c
unfolding name_text set_text column_text
column_is cell row c count atoms e f =
    ap (λ (n : ℕ). name_text (entry_name cell) ++ set_text (get_or cell 25 0) n atoms) e
    ∙ ap (λ (a : List (List ℕ)). name_text (entry_name cell) ++ set_text (get_or cell 25 0) (value_in c row).count a) f
    ∙ append_assoc (quoted (entry_name cell)) (58 ∷ []) (set_text (get_or cell 25 0) (value_in c row).count (value_in c row).atoms)

module _ (show first : Bool) (t : List ℕ) where
  pub shown_yes : show ≡ true → (comma_text first ++ t) ≡ shown_text show first t
  unfolding shown_text
  shown_yes e = rw e refl

  pub shown_no : show ≡ false → [] ≡ shown_text show first t
  unfolding shown_text
  shown_no e = rw e refl

pub row_id_is : (id : List ℕ) (row : List (List ℕ)) → id ≡ part 1 16 (get_or row 0 []) → (ascii "\"_uuid\":" ++ id_text id) ≡ (comma_text true ++ row_id_text row)
unfolding id_text row_id_text id_in comma_text
row_id_is id row e = ap (λ (b : List ℕ). ascii "\"_uuid\":" ++ id_text b) e

-- one column more
abbrev pub listed : Bool → List ℕ → List (List ℕ) → List (List ℕ)
listed show t rest = elim show [ true ↦ t ∷ rest | false ↦ rest ]

module _ (schema : List (List ℕ)) (from : ℕ) (row : List (List ℕ)) (shown : List Bool) where
  -- what is due after a column, by whether it is shown
  step : (show first : Bool) (t : List ℕ) (l : List (List ℕ)) (rest : List (List ℕ)) → l ≡ listed show t rest → joined first l ≡ shown_text show first t ++ joined (not show && first) rest
  unfolding shown_text
  step true first t l rest e = ap (joined first) e ∙ sym (append_assoc (comma_text first) t (joined false rest))
  step false first t l rest e = ap (joined first) e

  pub columns_next : (first : Bool) (c n : ℕ) → c < n
      → joined first (shown_from schema from row shown c (n - c)) ≡ shown_text (get_or shown (c + 1) false) first (column_text (get_or schema (from + c) []) row c) ++ joined (not (get_or shown (c + 1) false) && first) (shown_from schema from row shown (c + 1) (n - (c + 1)))
  columns_next first c n h =
      let show = get_or shown (c + 1) false in
      let t = column_text (get_or schema (from + c) []) row c in
      let k : n - c ≡ suc (n - (c + 1)) = omega arith in
      step show first t (shown_from schema from row shown c (n - c)) (shown_from schema from row shown (c + 1) (n - (c + 1)))
      (ap (shown_from schema from row shown c) k ∙ ap (λ (j : ℕ). listed show t (shown_from schema from row shown j (n - (c + 1)))) (sym (add-one c)))

  pub columns_end : (first : Bool) (c n : ℕ) → n ≤ c → joined first (shown_from schema from row shown c (n - c)) ≡ []
  columns_end first c n h =
      let e : n - c ≡ 0 = omega arith in
      ap (λ (k : ℕ). joined first (shown_from schema from row shown c k)) e

-- the whole object
pub row_is : (schema : List (List ℕ)) (t : ℕ) (row : List (List ℕ)) (shown : List Bool) (n : ℕ) → n ≡ column_count schema t
    → (123 ∷ (shown_text (get_or shown 0 false) true (row_id_text row) ++ (joined (not (get_or shown 0 false)) (shown_from schema (5 + 6 * t) row shown 0 n) ++ (125 ∷ [])))) ≡ row_shown schema t row shown
unfolding row_shown
row_is schema t row shown n e =
    let piece : ℕ → ℕ → List ℕ = λ f k. 123 ∷ (shown_text (get_or shown 0 false) true (row_id_text row) ++ (joined (not (get_or shown 0 false)) (shown_from schema f row shown 0 k) ++ (125 ∷ []))) in
    ap (piece (5 + 6 * t)) e ∙ ap (λ (f : ℕ). piece f (column_count schema t)) (sym (add-zero (5 + 6 * t)))
