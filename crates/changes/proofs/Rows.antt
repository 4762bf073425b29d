-- What a commit writes of each row, one row and one column after another. Assumes nothing.
use Rattle.std.specs.Prelude.{Option, Some, None}
use mathlib.Core.Path.{◌≡◌, refl, sym, ap, subst, ◌∙◌}
use mathlib.Core.Bool.{Bool, true, false}
use mathlib.Core.List.{List, [], ◌∷◌, ◌++◌}
use Prim.Native.Nat.{ℕ, suc, ◌+◌, ◌≤◌, ◌<◌, min}
use native.Mathlib.Numerals.{add-one}
use native.Mathlib.Omega.{arith}
use borrow.Author.Tests.{leb-true, leb-false}
use lib.Dec.{leb}
use lib.ListN.{length, get_or, take, drop, drop_of_length-le, length-map}
use lib.Seq.{get_or-take, take-take}
use Rattle.model.specs.Schema.{Schema, columns_of}
use Rattle.model.specs.Value.{Value, initial}
use Rattle.model.specs.Limits.{most_rows, rows_offset, store_bytes}
use Rattle.model.specs.Octets.{value}
use Rattle.model.specs.Rows.{Row, key_of, find, has, initials}
use Rattle.model.specs.Areas.{row_from}
use Rattle.inner.specs.Positions.{is_nothing}
use Rattle.inner.specs.Working.{working, table_in, id_in, key_in, value_in, place}
use Rattle.model.specs.Records.{Change, born, gone, column, end, gones, writes, never, walk, closed}
use Rattle.model.proofs.Tests.{split}
use Rattle.inner.proofs.Working.{key_head, row_table, row_id, row_key, working_length, working_at, working_on, working_end}
use Rattle.inner.proofs.Places.{place_at, place_none}
use Rattle.references.proofs.Links.{values_length, values_on}
use Rattle.rows.specs.Post.{KeyBytes}
use Rattle.area.specs.Layout.{row_at, rows_at}
use Rattle.area.proofs.Copies.{rows_length, rows_are}
use Rattle.changes.specs.Walk.{Old, old_cells, skips, row_written}

-- ── the rows that an area has, one after another: those that are gone ──
module _ (s : Schema) (after : List Row) (rows : List (List (List ℕ))) (n : ℕ) (h : n ≤ length rows) (i : ℕ) where
  pub gones_like : i < n → has (key_in (get_or rows i [])) after ≡ true → gones after (drop i (working s n rows)) ≡ gones after (drop (i + 1) (working s n rows))
  gones_like l e = rw (working_on s rows n h i l, row_key s (get_or rows i []), e)

  pub gones_other : i < n → has (key_in (get_or rows i [])) after ≡ false → gones after (drop i (working s n rows)) ≡ (gone (table_in (get_or rows i [])) (id_in (get_or rows i [])) ∷ []) ++ gones after (drop (i + 1) (working s n rows))
  gones_other l e = rw (working_on s rows n h i l, row_key s (get_or rows i []), e, row_table s (get_or rows i []), row_id s (get_or rows i []))

  pub gones_end : n ≤ i → gones after (drop i (working s n rows)) ≡ []
  gones_end l = rw (working_end s rows n h i l)

-- a key's bytes: the table and the id
module _ {b : List ℕ} {cells : List (List ℕ)} (k : KeyBytes b cells) where
  pub key_table : get_or b 0 0 ≡ table_in cells
  unfolding table_in
  key_table = ap (λ (l : List ℕ). get_or l 0 0) k.bytes ∙ get_or-take 17 (get_or cells 0 []) 0 0 (omega arith)

  pub key_id : value (take 16 (drop 1 b)) ≡ id_in cells
  unfolding id_in
  key_id = ap (λ (l : List ℕ). value (take 16 (drop 1 l))) k.bytes ∙ ap value (inner (get_or cells 0 []))
    where
      inner : (l : List ℕ) → take 16 (drop 1 (take 17 l)) ≡ take 16 (drop 1 l)
      inner [] = refl
      inner (x ∷ l) = take-take 16 16 l (omega arith)

  pub key_value : value b ≡ key_in cells
  key_value = ap value k.bytes ∙ sym (key_head cells k.head)

  pub key_is : key_of (get_or b 0 0) (value (take 16 (drop 1 b))) ≡ key_in cells
  unfolding key_in
  key_is = λ j. key_of (key_table j) (key_id j)

-- ── the rows after the commit, one after another ──
module _ (s : Schema) (before : List Row) (rows : List (List (List ℕ))) (n : ℕ) (h : n ≤ length rows) (i : ℕ) where
  pub walk_on : i < n → walk s before (drop i (working s n rows)) ≡ row_written s before (row_from s (get_or rows i [])) ++ walk s before (drop (i + 1) (working s n rows))
  unfolding row_written
  walk_on l = rw (working_on s rows n h i l)

  pub walk_end : n ≤ i → walk s before (drop i (working s n rows)) ≡ []
  walk_end l = rw (working_end s rows n h i l)

-- ── the columns that a row has before and after ──
module _ (skip : Value → Value → Bool) (t i c : ℕ) where
  no_old : (ws : List Value) → writes skip t i c [] ws ≡ []
  no_old [] = refl
  no_old (w ∷ ws) = refl

  no_new : (vs : List Value) → writes skip t i c vs [] ≡ []
  no_new [] = refl
  no_new (v ∷ vs) = refl

module _ (skip : Value → Value → Bool) (s : Schema) (old row : List (List ℕ)) (t i c : ℕ) where
  abbrev pub columns_left : ℕ → List Change
  columns_left k = writes skip t i k (drop k (row_from s old).columns) (drop k (row_from s row).columns)

  pub columns_like : c < length (columns_of s (table_in old)) → c < length (columns_of s (table_in row)) → skip (value_in c old) (value_in c row) ≡ true → columns_left c ≡ columns_left (c + 1)
  columns_like g h e = rw (values_on s old c g, values_on s row c h, e, add-one c)

  pub columns_other : c < length (columns_of s (table_in old)) → c < length (columns_of s (table_in row)) → skip (value_in c old) (value_in c row) ≡ false
      → columns_left c ≡ (column t i c (value_in c row) ∷ []) ++ columns_left (c + 1)
  columns_other g h e = rw (values_on s old c g, values_on s row c h, e, add-one c)

  pub columns_end : min (length (columns_of s (table_in old))) (length (columns_of s (table_in row))) ≤ c → columns_left c ≡ []
  columns_end h =
      let vs : List Value = (row_from s old).columns in
      let ws : List Value = (row_from s row).columns in
      split (leb (length (columns_of s (table_in old))) c)
      (λ e. rw (drop_of_length-le vs {i = c} (omega (arith, values_length s old, leb-true (length (columns_of s (table_in old))) c e))) (no_old skip t i c (drop c ws)))
      (λ e. rw (drop_of_length-le ws {i = c} (omega (arith, values_length s row, leb-false (length (columns_of s (table_in old))) c e))) (no_new skip t i c (drop c vs)))

-- of a new row all are written, whatever they are compared to
all_columns : (t i c : ℕ) (vs us ws : List Value) → length vs ≡ length us → writes never t i c vs ws ≡ writes never t i c us ws
all_columns t i c [] [] ws e = refl
all_columns t i c [] (u ∷ us) ws e = absurd (omega arith)
all_columns t i c (v ∷ vs) [] ws e = absurd (omega arith)
all_columns t i c (v ∷ vs) (u ∷ us) [] e = refl
all_columns t i c (v ∷ vs) (u ∷ us) (w ∷ ws) e = ap (λ (l : List Change). column t i c w ∷ l) (all_columns t i (suc c) vs us ws (omega arith))

-- ── a row, by where the area has it ──
pub old_at : (a : List ℕ) (old : Option ℕ) (i : ℕ) → old ≡ Some i → Old a old → (store_bytes ≤ length a) × (i < most_rows)
unfolding Old
old_at a old i e h = subst (Old a) e h

pub at_old : (a : List ℕ) (old : Option ℕ) (i : ℕ) → old ≡ Some i → store_bytes ≤ length a → i < most_rows → Old a old
unfolding Old
at_old a old i e h g = subst (Old a) (sym e) (h, g)

pub nothing_old : (a : List ℕ) (old : Option ℕ) → old ≡ None → Old a old
unfolding Old
nothing_old a old e = subst (Old a) (sym e) tt

module _ (s : Schema) (a : List ℕ) (m : ℕ) (row : List (List ℕ)) where
  abbrev before : List Row
  before = working s m (rows_at m a)

  -- its columns against those of the row there
  abbrev pub columns_over : Option ℕ → List Change
  columns_over old = writes (skips (is_nothing old)) (table_in row) (id_in row) 0 (row_from s (old_cells a old row)).columns (row_from s row).columns

  pub row_new : place (key_in row) before ≡ None → (born (table_in row) (id_in row) ∷ []) ++ columns_over None ≡ row_written s before (row_from s row)
  unfolding row_written skips old_cells is_nothing
  row_new e =
      let n : length (row_from s row).columns ≡ length (initials s (table_in row)) = values_length s row ∙ sym (length-map (columns_of s (table_in row)) initial) in
      rw (row_key s row, (place_none (key_in row) before e).find, row_table s row, row_id s row)
      (ap (λ (l : List Change). born (table_in row) (id_in row) ∷ l) (all_columns (table_in row) (id_in row) 0 (row_from s row).columns (initials s (table_in row)) (row_from s row).columns n))

  module _ (i : ℕ) (e : place (key_in row) before ≡ Some i) where
    pub old_within : i < m
    old_within = omega (arith, (place_at (key_in row) before i e).within, working_length s (rows_at m a) m (omega (arith, rows_length m (drop rows_offset a))), rows_length m (drop rows_offset a))

    found_row : find (key_in row) before ≡ Some (row_from s (row_at a i))
    found_row = (place_at (key_in row) before i e).find (row_from s []) ∙ ap Some (working_at s (rows_at m a) m (omega (arith, rows_length m (drop rows_offset a))) i (row_from s []) old_within ∙ ap (row_from s) (rows_are a i m old_within))

    pub row_changed : columns_over (Some i) ≡ row_written s before (row_from s row)
    unfolding row_written skips old_cells is_nothing
    row_changed = rw (row_key s row, found_row, row_table s row, row_id s row)

-- ── the end ──
pub closed_none : (es : List Change) → length es ≡ 0 → es ≡ closed es
closed_none [] h = refl
closed_none (e ∷ es) h = absurd (omega arith)

pub closed_some : (es : List Change) → (length es ≡ 0 → ⊥) → es ++ (end ∷ []) ≡ closed es
closed_some [] h = absurd (h refl)
closed_some (e ∷ es) h = refl
