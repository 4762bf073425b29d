-- A column of a row in cells: read, and set. Assumes nothing.
use mathlib.Core.Path.{◌≡◌, refl, sym, ap, ◌∙◌}
use mathlib.Core.List.{List, [], ◌∷◌, ◌++◌, map, append_assoc}
use Prim.Native.Nat.{ℕ, zero, suc, ◌+◌, ◌-◌, ◌*◌, ◌≤◌, ◌<◌}
use native.Mathlib.Omega.{arith}
use lib.ListN.{length, get_or, take, drop, set, replicate, length-append, length-drop, length-set, length-map}
use lib.Seq.{take_at, drop_at, take-add, drop-drop, drop-set-add, take-set-le, get_or-set_other, get_or-drop, length-take-le, take-append-le, drop-append-le, set-append_left}
use Rattle.model.specs.Octets.{big, value, part}
use Rattle.model.specs.Schema.{Schema, columns_of}
use Rattle.model.specs.Value.{Value, value_of, blank}
use Rattle.model.specs.Rows.{Row, set_column, column_value}
use Rattle.model.specs.Areas.{head_cell, atom_cells, row_cells, columns_from, row_from}
use Rattle.inner.specs.Working.{table_in, value_in, with_value, TidyRow}
use Rattle.inner.proofs.Places.{map_set}

-- ── read ──
column_at_lem : (n c : ℕ) (counts : List ℕ) (cells : List (List ℕ)) (d : Value) → c < n
    → get_or (columns_from n counts cells) c d ≡ record { count = get_or counts c 0; atoms = take 4 (drop (4 * c) cells) }
column_at_lem zero c counts cells d h = absurd (omega arith)
column_at_lem (suc n) zero counts cells d h = refl
column_at_lem (suc n) (suc c) counts cells d h =
    let e : 4 + 4 * c ≡ 4 * suc c = omega arith in
    column_at_lem n c (drop 1 counts) (drop 4 cells) d (omega arith)
    ∙ (λ j. record { count = (get_or-drop 1 counts c 0 ∙ ap (λ (k : ℕ). get_or counts k 0) one) j; atoms = take 4 ((drop-drop (4 * c) 4 cells ∙ ap (λ (k : ℕ). drop k cells) e) j) })
  where
    one : 1 + c ≡ suc c
    one = omega arith

-- a column that the row's table has is the one in the cells
pub column_value_lem : (s : Schema) (cells : List (List ℕ)) (c : ℕ) → c < length (columns_of s (table_in cells)) → column_value (row_from s cells) c ≡ value_in c cells
unfolding row_from value_in table_in
column_value_lem s cells c h =
    column_at_lem (length (columns_of s (get_or (get_or cells 0 []) 0 0))) c (drop 17 (get_or cells 0 [])) (drop 1 cells) (value_of []) h
    ∙ (λ j. record { count = get_or-drop 17 (get_or cells 0 []) c 0 j; atoms = take 4 (drop-drop (4 * c) 1 cells j) })

-- ── set ──
set_past : {A : Type 0} (p q : List A) (n i : ℕ) (a : A) → length p ≡ n → set (p ++ q) (n + i) a ≡ p ++ set q i a
set_past [] q n i a e = let f : n + i ≡ i = omega arith in rw f
set_past (x ∷ p) q zero i a e = absurd (omega arith)
set_past {A} (x ∷ p) q (suc n) i a e = let f : suc n + i ≡ suc (n + i) = omega arith in rw f (ap (λ (l : List A). x ∷ l) (set_past p q n i a (omega arith)))

-- four elements from 4c on replaced
abbrev four : {A : Type 0} → ℕ → List A → List A → List A
four c a l = take (4 * c) l ++ (a ++ drop (4 * c + 4) l)

four_next : {A : Type 0} (c : ℕ) (a l : List A) → four (suc c) a l ≡ take 4 l ++ four c a (drop 4 l)
four_next {A} c a l =
    let e : 4 * suc c ≡ 4 + 4 * c = omega arith in
    let f : 4 + 4 * c + 4 ≡ 4 + (4 * c + 4) = omega arith in
    rw (e, take-add 4 (4 * c) l, f, ← drop-drop (4 * c + 4) 4 l) (append_assoc (take 4 l) (take (4 * c) (drop 4 l)) (a ++ drop (4 * c + 4) (drop 4 l)))

columns_set : (n c : ℕ) (counts : List ℕ) (cells : List (List ℕ)) (v : Value) → c < length counts → 4 * c + 4 ≤ length cells → length v.atoms ≡ 4
    → columns_from n (set counts c v.count) (four c v.atoms cells) ≡ set (columns_from n counts cells) c v
columns_set zero c counts cells v h g e = refl
columns_set (suc n) zero [] cells v h g e = absurd (omega arith)
columns_set (suc n) zero (k ∷ counts) cells v h g e = rw (take_at v.atoms (drop 4 cells) 4 e, drop_at v.atoms (drop 4 cells) 4 e)
columns_set (suc n) (suc c) [] cells v h g e = absurd (omega arith)
columns_set (suc n) (suc c) (k ∷ counts) cells v h g e =
    let t : length (take 4 cells) ≡ 4 = length-take-le 4 cells (omega arith) in
    rw (
      four_next c v.atoms cells,
      take_at (take 4 cells) (four c v.atoms (drop 4 cells)) 4 t,
      drop_at (take 4 cells) (four c v.atoms (drop 4 cells)) 4 t,
      columns_set n c counts (drop 4 cells) v (omega arith) (omega (arith, length-drop 4 cells)) e,
    )

-- a count set leaves table and id
module _ (head : List ℕ) (c x : ℕ) where
  head_table : get_or (set head (17 + c) x) 0 0 ≡ get_or head 0 0
  head_table = get_or-set_other head (17 + c) 0 x 0 (λ q. omega arith)

  head_id : part 1 16 (set head (17 + c) x) ≡ part 1 16 head
  head_id =
      let f : 17 + c ≡ 1 + (16 + c) = omega arith in
      rw f (ap (take 16) (drop-set-add 1 head (16 + c) x) ∙ take-set-le 16 (drop 1 head) (16 + c) x (omega arith))

module _ (s : Schema) (cells : List (List ℕ)) (c : ℕ) (v : Value) (six : c < 6) (all : length cells ≡ 25) (wide : length (get_or cells 0 []) ≡ 25) (e : length v.atoms ≡ 4) where
  pub row_set : row_from s (with_value c v cells) ≡ set_column c v (row_from s cells)
  unfolding row_from with_value
  row_set =
      let head = get_or cells 0 [] in
      let table = head_table head c v.count in
      λ j. record {
        table = table j;
        id = value (head_id head c v.count j);
        columns = (ap (λ (t : ℕ). columns_from (length (columns_of s t)) (drop 17 (set head (17 + c) v.count)) (four c v.atoms (drop 1 cells))) table
            ∙ ap (λ (l : List ℕ). columns_from (length (columns_of s (get_or head 0 0))) l (four c v.atoms (drop 1 cells))) (drop-set-add 17 head c v.count)
            ∙ columns_set (length (columns_of s (get_or head 0 0))) c (drop 17 head) (drop 1 cells) v (omega (arith, length-drop 17 head)) (omega (arith, length-drop 1 cells)) e) j;
      }

-- ── tidy ──
-- four atoms in each value
abbrev Fours : List Value → Type 0
Fours [] = Unit
Fours (v ∷ vs) = (length v.atoms ≡ 4) × Fours vs

fours : (n : ℕ) (counts : List ℕ) (cells : List (List ℕ)) → 4 * n ≤ length cells → Fours (columns_from n counts cells)
fours zero counts cells h = tt
fours (suc n) counts cells h = (length-take-le 4 cells (omega arith), fours n (drop 1 counts) (drop 4 cells) (omega (arith, length-drop 4 cells)))

fours_length : (vs : List Value) → Fours vs → length (atom_cells vs) ≡ 4 * length vs
fours_length [] h = refl
fours_length (v ∷ vs) h = simp length-append (omega (arith, h.0, fours_length vs h.1))

cells_set : (vs : List Value) (c : ℕ) (v : Value) → Fours vs → c < length vs → atom_cells (set vs c v) ≡ four c v.atoms (atom_cells vs)
cells_set [] c v h g = absurd (omega arith)
cells_set (x ∷ vs) zero v h g = ap (λ (l : List (List ℕ)). v.atoms ++ l) (sym (drop_at x.atoms (atom_cells vs) 4 h.0))
cells_set (x ∷ vs) (suc c) v h g =
    ap (λ (l : List (List ℕ)). x.atoms ++ l) (cells_set vs c v h.1 (omega arith))
    ∙ sym (four_next c v.atoms (x.atoms ++ atom_cells vs) ∙ rw (take_at x.atoms (atom_cells vs) 4 h.0, drop_at x.atoms (atom_cells vs) 4 h.0))

columns_length : (n : ℕ) (counts : List ℕ) (cells : List (List ℕ)) → length (columns_from n counts cells) ≡ n
columns_length zero counts cells = refl
columns_length (suc n) counts cells = ap suc (columns_length n (drop 1 counts) (drop 4 cells))

-- the cells of a row with a column set are those with the column set in them
module _ (r : Row) (c : ℕ) (v : Value) (h : Fours r.columns) (g : c < length r.columns) where
  head_set : head_cell (set_column c v r) ≡ set (head_cell r) (17 + c) v.count
  head_set =
      let n = length r.columns in
      let counts = map (λ (w : Value). w.count) r.columns in
      rw (length-set r.columns c v, map_set (λ (w : Value). w.count) r.columns c v)
      (sym (set_past (r.table ∷ big 16 r.id) (counts ++ replicate (8 - n) 0) 17 c v.count refl
      ∙ ap (λ (l : List ℕ). (r.table ∷ big 16 r.id) ++ l) (set-append_left counts (replicate (8 - n) 0) c v.count (omega (arith, length-map r.columns (λ (w : Value). w.count))))))

  row_cells_set : row_cells (set_column c v r) ≡ with_value c v (row_cells r)
  unfolding row_cells with_value
  row_cells_set =
      let n = length r.columns in
      let rest = replicate (4 * (6 - n)) blank in
      let x = atom_cells r.columns in
      let l = fours_length r.columns h in
      let p : take (4 * c) (x ++ rest) ≡ take (4 * c) x = take-append-le (4 * c) x rest (omega arith) in
      let q : drop (4 * c + 4) (x ++ rest) ≡ drop (4 * c + 4) x ++ rest = drop-append-le (4 * c + 4) x rest (omega arith) in
      rw (head_set, length-set r.columns c v, cells_set r.columns c v h g, p, q)
      (ap (λ (y : List (List ℕ)). set (head_cell r) (17 + c) v.count ∷ y)
      (append_assoc (take (4 * c) x) (v.atoms ++ drop (4 * c + 4) x) rest ∙ ap (λ (y : List (List ℕ)). take (4 * c) x ++ y) (append_assoc v.atoms (drop (4 * c + 4) x) rest)))

module _ (s : Schema) (cells : List (List ℕ)) (c : ℕ) (v : Value) (six : c < 6) (all : length cells ≡ 25) (wide : length (get_or cells 0 []) ≡ 25) (e : length v.atoms ≡ 4) where
  shape : length (columns_of s (table_in cells)) ≤ 6 → Fours (row_from s cells).columns
  unfolding row_from table_in
  shape n = fours (length (columns_of s (table_in cells))) (drop 17 (get_or cells 0 [])) (drop 1 cells) (omega (arith, length-drop 1 cells))

  size : length (row_from s cells).columns ≡ length (columns_of s (table_in cells))
  unfolding row_from table_in
  size = columns_length (length (columns_of s (table_in cells))) (drop 17 (get_or cells 0 [])) (drop 1 cells)

  pub tidy_column : c < length (columns_of s (table_in cells)) → length (columns_of s (table_in cells)) ≤ 6 → TidyRow s cells → TidyRow s (with_value c v cells)
  unfolding TidyRow
  tidy_column g n t = ap row_cells (row_set s cells c v six all wide e) ∙ row_cells_set (row_from s cells) c v (shape n) (omega (arith, size)) ∙ ap (with_value c v) t
