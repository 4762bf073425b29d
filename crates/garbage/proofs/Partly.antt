-- Rows weakened one after another, where each looks only at keys, which stay. Assumes nothing.
use mathlib.Core.Path.{◌≡◌, refl, sym, ap, ◌∙◌}
use mathlib.Core.List.{List, [], ◌∷◌, map}
use Prim.Native.Nat.{ℕ, zero, suc, ◌+◌, ◌≤◌, ◌<◌}
use native.Mathlib.Numerals.{add-one}
use native.Mathlib.Omega.{arith}
use lib.ListN.{length, get_or, take, set, length-set}
use lib.Seq.{take-set-lt, length-take-le, get_or-take}
use Rattle.model.specs.Schema.{Refers, plain, strong, weak, Column, Schema, columns_of}
use Rattle.model.specs.Value.{Value, elements, value_of, uuid_of}
use Rattle.model.specs.Rows.{Row, key_of, key, has}
use Rattle.model.specs.Commit.{present, weaken_value, weaken_columns, weaken_row}
use Rattle.model.specs.Areas.{row_from}
use Rattle.inner.specs.Working.{working, Tidy, Ordered}
use Rattle.inner.proofs.Working.{working_at, working_length}
use Rattle.inner.proofs.Places.{working_set, tidy_set, tidy_at}
use Rattle.inner.proofs.Ordering.{working_keys, keys_ordered}
use Rattle.references.proofs.Keeping.{keep_alike}
use Rattle.garbage.specs.Weak.{RowWeak, Weakened}

-- ── what is left depends only on which keys there are ──
module _ (a b : List Row) (same : (k : ℕ) → has k a ≡ has k b) where
  value_alike : (r : Refers) (v : Value) → weaken_value a r v ≡ weaken_value b r v
  value_alike plain v = refl
  value_alike (strong t) v = refl
  value_alike (weak t) v = ap value_of (keep_alike (present a t) (present b t) (λ x. same (key_of t (uuid_of x))) (elements v))

  columns_alike : (cs : List Column) (vs : List Value) → weaken_columns a cs vs ≡ weaken_columns b cs vs
  columns_alike [] vs = refl
  columns_alike (c ∷ cs) [] = refl
  columns_alike (c ∷ cs) (v ∷ vs) = rw (value_alike c.refers v, columns_alike cs vs)

  row_alike : (s : Schema) (r : Row) → weaken_row s a r ≡ weaken_row s b r
  row_alike s r = λ i. record { table = r.table; id = r.id; columns = columns_alike (columns_of s r.table) r.columns i }

-- ── the first i rows ──
module _ (s : Schema) (w : List Row) where
  abbrev pub weak_rows : ℕ → List Row → List Row
  weak_rows zero l = l
  weak_rows (suc i) [] = []
  weak_rows (suc i) (r ∷ l) = weaken_row s w r ∷ weak_rows i l

  rows_has : (i k : ℕ) (l : List Row) → has k (weak_rows i l) ≡ has k l
  rows_has zero k l = refl
  rows_has (suc i) k [] = refl
  rows_has (suc i) k (r ∷ l) = rw (rows_has i k l)

  rows_keys : (i : ℕ) (l : List Row) → map key (weak_rows i l) ≡ map key l
  rows_keys zero l = refl
  rows_keys (suc i) [] = refl
  rows_keys (suc i) (r ∷ l) = ap (λ (m : List ℕ). key r ∷ m) (rows_keys i l)

  rows_same : (i : ℕ) (l : List Row) (d : Row) → get_or (weak_rows i l) i d ≡ get_or l i d
  rows_same zero l d = refl
  rows_same (suc i) [] d = refl
  rows_same (suc i) (r ∷ l) d = rows_same i l d

  rows_on : (i : ℕ) (l : List Row) (d : Row) → i < length l → set (weak_rows i l) i (weaken_row s w (get_or l i d)) ≡ weak_rows (suc i) l
  rows_on zero [] d h = absurd (omega arith)
  rows_on zero (r ∷ l) d h = refl
  rows_on (suc i) [] d h = absurd (omega arith)
  rows_on (suc i) (r ∷ l) d h = ap (λ (m : List Row). weaken_row s w r ∷ m) (rows_on i l d (omega arith))

  rows_all : (i : ℕ) (l : List Row) → length l ≤ i → weak_rows i l ≡ map (weaken_row s w) l
  rows_all zero [] h = refl
  rows_all zero (r ∷ l) h = absurd (omega arith)
  rows_all (suc i) [] h = refl
  rows_all (suc i) (r ∷ l) h = ap (λ (m : List Row). weaken_row s w r ∷ m) (rows_all i l (omega arith))

-- ── in cells ──
module _ (s : Schema) (n : ℕ) (entry : List (List (List ℕ))) (h : n ≤ length entry) where
  pub record Going (i : ℕ) (cells : List (List (List ℕ))) : Type 0 where
    pub size : length cells ≡ length entry
    pub rows : working s n cells ≡ weak_rows s (working s n entry) i (working s n entry)
    pub tidy : Tidy s (take n entry) → Tidy s (take n cells)

  pub going_none : Going 0 entry
  going_none = record { size = refl; rows = refl; tidy = λ t. t }

  -- the keys stay, and with them the order
  pub going_ordered : (i : ℕ) (cells : List (List (List ℕ))) → Going i cells → Ordered n entry → Ordered n cells
  going_ordered i cells g o =
      let w = working s n entry in
      keys_ordered n n entry cells (omega (arith, g.size, h)) (sym (working_keys s n cells) ∙ ap (map key) g.rows ∙ rows_keys s w i w ∙ working_keys s n entry) o

  pub going_end : (i : ℕ) (cells : List (List (List ℕ))) → n ≤ i → Going i cells → Ordered n entry → Weakened s n entry cells
  going_end i cells l g o = record { rows = g.rows ∙ rows_all s (working s n entry) i (working s n entry) (omega (arith, working_length s entry n h)); tidy = g.tidy; ordered = going_ordered i cells g o }

  none_row : Row
  none_row = record { table = 0; id = 0; columns = [] }

  pub going_on : (i : ℕ) (cells : List (List (List ℕ))) (row : List (List ℕ)) → i < n → Going i cells → RowWeak s n cells (get_or cells i []) row → Going (i + 1) (set cells i row)
  going_on i cells row l g k =
      let b : n ≤ length cells = omega (arith, g.size) in
      let r0 = working s n entry in
      let here : row_from s (get_or cells i []) ≡ get_or r0 i none_row = sym (working_at s cells n b i none_row l) ∙ ap (λ (m : List Row). get_or m i none_row) g.rows ∙ rows_same s r0 i r0 none_row in
      let f : row_from s row ≡ weaken_row s r0 (get_or r0 i none_row) =
      k.row ∙ row_alike (working s n cells) r0 (λ j. ap (has j) g.rows ∙ rows_has s r0 i j r0) s (row_from s (get_or cells i [])) ∙ ap (weaken_row s r0) here in
      record {
        size = length-set cells i row ∙ g.size;
        rows = working_set s n cells i row l ∙ ap (λ (m : List Row). set m i (row_from s row)) g.rows ∙ ap (set (weak_rows s r0 i r0) i) f ∙ rows_on s r0 i r0 none_row (omega (arith, working_length s entry n h))
            ∙ ap (λ (m : ℕ). weak_rows s r0 m r0) (sym (add-one i));
        tidy = λ t. rw (take-set-lt n cells i row l) (tidy_set s (take n cells) i row (g.tidy t) (k.tidy (rw (get_or-take n cells i [] l) at (tidy_at s (take n cells) i [] (g.tidy t) (omega (arith, length-take-le n cells b))))));
      }
