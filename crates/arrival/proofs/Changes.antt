-- What a record does to rows in cells. Assumes nothing.
use Rattle.std.specs.Prelude.{Option, Some, None}
use mathlib.Core.Path.{◌≡◌, refl, sym, ap, ◌∙◌}
use mathlib.Core.Bool.{true}
use mathlib.Core.List.{List, [], ◌∷◌, ◌++◌, append-nil}
use Prim.Native.Nat.{ℕ, zero, suc, ◌+◌, ◌-◌, ◌*◌, ◌≤◌, ◌<◌}
use native.Mathlib.Omega.{arith}
use borrow.Author.Tests.{eqb-true}
use borrow.Rule.Slice.PartMut.{mid_of, put_mid}
use lib.Dec.{eqb}
use Rattle.catalog.specs.Accepted.{Accepted}
use lib.ListN.{length, get_or, take, drop, set, replicate, drop_of_length-le}
use lib.Seq.{length-take-le, take-set-lt, get_or-take, get_or-drop, drop-drop}
use Rattle.model.specs.Base.{nth, flat}
use Rattle.model.specs.Schema.{Schema, columns_of}
use Rattle.model.specs.Value.{Value}
use Rattle.model.specs.Rows.{Row, key_of, key, find, set_column, change}
use Rattle.model.specs.Records.{known, value_bytes}
use Rattle.model.specs.Mirror.{value_answer, row_answer}
use Rattle.model.specs.Catalog.{packed_tables}
use Rattle.model.specs.Areas.{columns_from, row_from}
use Rattle.model.proofs.Order.{Fine, AllFine, Good}
use Rattle.inner.specs.Working.{working, table_in, value_in, TidyRow, Tidy}
use Rattle.model.proofs.Tests.{split}
use Rattle.inner.proofs.Working.{working_length, working_at, row_table}
use Rattle.inner.proofs.Places.{Placed, Absent, working_set, tidy_set, tidy_at}
use Rattle.model.proofs.Heart.{key_is}
use Rattle.model.proofs.Kept.{born_row, born_fine}
use Rattle.rows.specs.Post.{ColumnSet}
use Rattle.record.proofs.Laws.{first}
use Rattle.octets.proofs.Rests.{write_next}
use Rattle.area.proofs.Schemas.{tables_count}
use Rattle.arrival.specs.Steps.{column_in, column_of, Left}
use Rattle.arrival.proofs.Records.{columns_count}

-- ── a row's column set ──
-- the row that is found has the key, and is fine where all are
found : (s : Schema) (k : ℕ) (rows : List Row) (r : Row) → AllFine s rows → find k rows ≡ Some r → (k ≡ key r) × Fine s r
found s k [] r f h = let z : ◌≡◌ {A = ℕ} 0 1 = cc in absurd (omega arith)
found s k (x ∷ rows) r f h = split (eqb k (key x))
    (λ e. let p : x ≡ r = go e h in (eqb-true k (key x) e ∙ ap key p, rw p at f.0))
    (λ e. found s k rows r f.1 (rw e at h))
  where
    go : eqb k (key x) ≡ true → find k (x ∷ rows) ≡ Some r → x ≡ r
    go e h = let q : Some x ≡ Some r = rw e at h in cc

module _ (s : Schema) (t i : ℕ) (rows : List Row) (p : ℕ) (d : Row) where
  found_table : known s t i ≡ true → Good s rows → Placed (key_of t i) rows p → (get_or rows p d).table ≡ t
  found_table k g h = let f = found s (key_of t i) rows (get_or rows p d) g.fine (h.find d) in sym (key_is (born_row s t i) (get_or rows p d) s (born_fine s t i k) f.1 f.0).0

no_row : Row
no_row = record { table = 0; id = 0; columns = [] }

module _ (s : Schema) (t i c : ℕ) (v : Value) (n : ℕ) (cells : List (List (List ℕ))) (h : n ≤ length cells) (p : ℕ) (w : Placed (key_of t i) (working s n cells) p) (row : List (List ℕ)) (x : ColumnSet c v (get_or cells p []) row) where
  below : p < n
  below = omega (arith, w.within, working_length s cells n h)

  set_rows : working s n (set cells p row) ≡ change (key_of t i) c v (working s n cells)
  set_rows =
      working_set s n cells p row below
      ∙ ap (set (working s n cells) p) (x.row s ∙ ap (set_column c v) (sym (working_at s cells n h p no_row below)))
      ∙ sym (w.change c v no_row)

  set_tidy : known s t i ≡ true → c < length (columns_of s t) → length (columns_of s t) ≤ 6 → Good s (working s n cells) → Tidy s (take n cells) → Tidy s (take n (set cells p row))
  set_tidy k a b g z =
      let q : table_in (get_or cells p []) ≡ t = sym (row_table s (get_or cells p [])) ∙ ap (λ (r : Row). r.table) (sym (working_at s cells n h p no_row below)) ∙ found_table s t i (working s n cells) p no_row k g w in
      let y : TidyRow s (get_or cells p []) = rw (get_or-take n cells p [] below) at (tidy_at s (take n cells) p [] z (omega (arith, below, length-take-le n cells h))) in
      rw (take-set-lt n cells p row below) (tidy_set s (take n cells) p row z (x.tidy s (rw q a) (rw q b) y))

  pub set_left : n ≤ 32 → known s t i ≡ true → c < length (columns_of s t) → length (columns_of s t) ≤ 6 → Left s (change (key_of t i) c v (working s n cells)) n cells n (set cells p row)
  set_left f k a b = record { same = set_rows; few = f; tidy = set_tidy k a b }

-- ── a column of a row in cells ──
module _ (s : Schema) (row : List (List ℕ)) where
  nth_columns : (n c : ℕ) (counts : List ℕ) (cells : List (List ℕ)) → c < n → nth (columns_from n counts cells) c ≡ Some (record { count = get_or counts c 0; atoms = take 4 (drop (4 * c) cells) })
  nth_columns zero c counts cells h = absurd (omega arith)
  nth_columns (suc n) zero counts cells h = refl
  nth_columns (suc n) (suc c) counts cells h =
      let e : 1 + c ≡ suc c = omega arith in
      nth_columns n c (drop 1 counts) (drop 4 cells) (omega arith)
      ∙ (λ j. Some (record { count = (get_or-drop 1 counts c 0 ∙ ap (λ (k : ℕ). get_or counts k 0) e) j; atoms = take 4 ((drop-drop (4 * c) 4 cells ∙ ap (λ (k : ℕ). drop k cells) g) j) }))
    where
      g : 4 + 4 * c ≡ 4 * suc c
      g = omega arith

  nth_none : (n c : ℕ) (counts : List ℕ) (cells : List (List ℕ)) → n ≤ c → nth (columns_from n counts cells) c ≡ None
  nth_none zero c counts cells h = refl
  nth_none (suc n) zero counts cells h = absurd (omega arith)
  nth_none (suc n) (suc c) counts cells h = nth_none n c (drop 1 counts) (drop 4 cells) (omega arith)

  column_there : (c : ℕ) → c < length (columns_of s (table_in row)) → nth (row_from s row).columns c ≡ Some (value_in c row)
  unfolding row_from table_in value_in
  column_there c h =
      nth_columns (length (columns_of s (table_in row))) c (drop 17 (get_or row 0 [])) (drop 1 row) h
      ∙ (λ j. Some (record { count = get_or-drop 17 (get_or row 0 []) c 0 j; atoms = take 4 (drop-drop (4 * c) 1 row j) }))

  column_missing : (c : ℕ) → length (columns_of s (table_in row)) ≤ c → nth (row_from s row).columns c ≡ None
  unfolding row_from table_in
  column_missing c h = nth_none (length (columns_of s (table_in row))) c (drop 17 (get_or row 0 [])) (drop 1 row) h

-- what is told of a column, by what the cells of the schema say of the row's table
module _ (cells : List (List ℕ)) (held : Accepted cells) (row : List (List ℕ)) (c t : ℕ) (here : t ≡ table_in row) where
  past : (s : Schema) (t : ℕ) → length s ≤ t → columns_of s t ≡ []
  past [] t h = refl
  past (x ∷ s) zero h = absurd (omega arith)
  past (x ∷ s) (suc t) h = past s t (omega arith)

  missing : length (columns_of (packed_tables cells) t) ≤ c → column_in (packed_tables cells) row c ≡ replicate 101 0
  unfolding column_in
  missing h = ap value_answer (column_missing (packed_tables cells) row c (rw here at h))

  pub no_table : get_or (get_or cells 0 []) 25 0 ≤ t → column_in (packed_tables cells) row c ≡ replicate 101 0
  no_table h = missing (omega (arith, ap length (past (packed_tables cells) t (omega (arith, tables_count cells 0 (get_or (get_or cells 0 []) 25 0))))))

  pub no_column : t < get_or (get_or cells 0 []) 25 0 → get_or (get_or cells (1 + t) []) 25 0 ≤ c → column_in (packed_tables cells) row c ≡ replicate 101 0
  no_column h g = missing (omega (arith, columns_count cells held t h))

  pub that_column : t < get_or (get_or cells 0 []) 25 0 → c < get_or (get_or cells (1 + t) []) 25 0 → column_in (packed_tables cells) row c ≡ value_bytes (value_in c row)
  unfolding column_in
  that_column h g =
      let l : c < length (columns_of (packed_tables cells) t) = omega (arith, columns_count cells held t h) in
      ap value_answer (column_there (packed_tables cells) row c (rw here at l))

-- the row is found, or not
pub found_column : (s : Schema) (n : ℕ) (cells : List (List (List ℕ))) → n ≤ length cells → (t i c p : ℕ) → Placed (key_of t i) (working s n cells) p → column_of (working s n cells) t i c ≡ column_in s (get_or cells p []) c
unfolding column_of column_in
found_column s n cells h t i c p w =
    ap (λ (o : Option Row). row_answer o c) (w.find no_row)
    ∙ ap (λ (r : Row). value_answer (nth r.columns c)) (working_at s cells n h p no_row (omega (arith, w.within, working_length s cells n h)))

pub no_row_column : (rows : List Row) (t i c : ℕ) → Absent (key_of t i) rows → column_of rows t i c ≡ replicate 101 0
unfolding column_of
no_row_column rows t i c w = ap (λ (o : Option Row). row_answer o c) w.find

-- a count and four atoms written over 101 bytes
pub value_put : (o ys : List ℕ) (b : ℕ) (atoms : List (List ℕ)) → length o ≡ 101 → length (flat atoms) ≡ 100 → ys ≡ flat atoms ++ drop 100 (mid_of 1 (length (set o 0 b) - 1) (set o 0 b))
    → put_mid 1 (length (set o 0 b) - 1) (set o 0 b) ys ≡ b ∷ flat atoms
value_put o ys b atoms l f e =
    write_next (b ∷ []) (flat atoms) o (set o 0 b) ys 1 100 refl (first o b (omega arith)) e
    ∙ ap (λ (x : List ℕ). b ∷ flat atoms ++ x) (drop_of_length-le o {i = 101} (omega arith))
    ∙ ap (λ (x : List ℕ). b ∷ x) (append-nil (flat atoms))
