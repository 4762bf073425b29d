-- Limits as the order of atoms tells them, and the tests of columns and rows one after another. Assumes nothing.
use mathlib.Core.Path.{◌≡◌, refl, ap, ◌∙◌}
use mathlib.Core.Bool.{Bool, true, false, ◌&&◌}
use mathlib.Core.List.{List, [], ◌∷◌}
use Prim.Native.Nat.{ℕ, ◌+◌, ◌≤◌, ◌<◌}
use native.Mathlib.Numerals.{add-one}
use native.Mathlib.Omega.{arith}
use borrow.Author.Tests.{lt-ltb, eqb-true, ne_eqb}
use lib.Dec.{leb, eqb}
use lib.IntN.{pos}
use lib.ListN.{length, get_or, take, drop, drop_of_length-le}
use lib.Seq.{drop-cons}
use Rattle.model.specs.Octets.{big, value}
use Rattle.model.specs.Text.{chars, begins}
use Rattle.model.specs.Schema.{Base, integer, boolean, text, uuid, Column}
use Rattle.model.specs.Catalog.{base_numbered}
use Rattle.model.specs.Catalog.{column_from}
use Rattle.model.specs.Value.{Value, elements, count_in_limits, all_in_limits, int_of, from_twos, text_of, in_limits, atom_in_limits}
use Rattle.inner.specs.Working.{value_in}
use Rattle.model.proofs.Tests.{split}
use Rattle.model.proofs.Octets.{value_big_fits}
use Rattle.row_types.specs.Met.{all_met, met_for, met_from}

-- ── a number of characters ──
pub small_is : (n : ℕ) → n < 9223372036854775808 → from_twos (value (big 8 n)) ≡ pos n
small_is n h = ap from_twos (value_big_fits 8 n (omega arith)) ∙ rw (lt-ltb n 9223372036854775808 h)

pub chars_short : (t : List ℕ) → chars t ≤ length t
unfolding chars
chars_short [] = omega arith
chars_short (b ∷ t) = split (begins b)
    (λ e. rw (e, chars) (omega (arith, chars_short t)))
    (λ e. rw (e, chars) (omega (arith, chars_short t)))

-- ── an atom by its column's base ──
base_uuid : (k : ℕ) → eqb k 0 ≡ false → eqb k 1 ≡ false → eqb k 2 ≡ false → base_numbered k ≡ uuid
unfolding base_numbered
base_uuid k x y z =
    let pick : Bool → Bool → Bool → Base = λ p q r. elim p [ true ↦ integer | false ↦ elim q [ true ↦ boolean | false ↦ elim r [ true ↦ text | false ↦ uuid ] ] ] in
    λ j. pick (x j) (y j) (z j)

module _ (cell a : List ℕ) where
  abbrev base : ℕ
  base = get_or cell 25 0

  pub at_integer : base ≡ 0 → atom_in_limits (column_from cell) (base_numbered base) a ≡ in_limits (column_from cell) (int_of a)
  unfolding base_numbered
  at_integer e = ap (λ (k : ℕ). atom_in_limits (column_from cell) (base_numbered k) a) e

  pub at_text : base ≡ 2 → atom_in_limits (column_from cell) (base_numbered base) a ≡ in_limits (column_from cell) (pos (chars (text_of a)))
  unfolding base_numbered
  at_text e = ap (λ (k : ℕ). atom_in_limits (column_from cell) (base_numbered k) a) e

  pub at_other : (base ≡ 0 → ⊥) → (base ≡ 2 → ⊥) → atom_in_limits (column_from cell) (base_numbered base) a ≡ true
  unfolding base_numbered
  at_other x y = split (eqb base 1)
      (λ e. ap (λ (k : ℕ). atom_in_limits (column_from cell) (base_numbered k) a) (eqb-true base 1 e))
      (λ e. ap (λ (k : Base). atom_in_limits (column_from cell) k a) (base_uuid base (ne_eqb base 0 x) e (ne_eqb base 2 y)))

-- ── the loop over the columns ──
module _ (cells : List (List ℕ)) (row : List (List ℕ)) (c : ℕ) where
  met_step : c < length cells → met_from c (drop c cells) row ≡ (met_for (column_from (get_or cells c [])) (value_in c row) && met_from (c + 1) (drop (c + 1) cells) row)
  met_step h = rw (drop-cons cells c [] h, add-one c)

  pub met_on : c < length cells → met_for (column_from (get_or cells c [])) (value_in c row) ≡ true → met_from c (drop c cells) row ≡ met_from (c + 1) (drop (c + 1) cells) row
  met_on h e = met_step h ∙ ap (λ (b : Bool). b && met_from (c + 1) (drop (c + 1) cells) row) e

  pub met_off : c < length cells → met_for (column_from (get_or cells c [])) (value_in c row) ≡ false → met_from c (drop c cells) row ≡ false
  met_off h e = met_step h ∙ ap (λ (b : Bool). b && met_from (c + 1) (drop (c + 1) cells) row) e

  pub met_end : length cells ≤ c → met_from c (drop c cells) row ≡ true
  met_end h = rw (drop_of_length-le cells {i = c} h)

-- ── the tests of one value ──
and_false : (b : Bool) → (b && false) ≡ false
and_false true = refl
and_false false = refl

module _ (cell : List ℕ) (v : Value) where
  abbrev c : Column
  c = column_from cell

  abbrev few : Bool
  few = leb v.count 4

  abbrev counts : Bool
  counts = count_in_limits c v.count

  abbrev limits : Bool
  limits = all_in_limits c (elements v)

  pub met_many : leb v.count 4 ≡ false → met_for c v ≡ false
  unfolding met_for
  met_many e = ap (λ (b : Bool). b && counts && limits) e

  pub met_count : counts ≡ false → met_for c v ≡ false
  unfolding met_for
  met_count e = ap (λ (b : Bool). few && b && limits) e ∙ ap (λ (b : Bool). b && limits) (and_false few)

  pub met_all : leb v.count 4 ≡ true → counts ≡ true → met_for c v ≡ all_met cell (take v.count v.atoms)
  unfolding met_for all_met
  met_all f e = λ j. f j && e j && limits
