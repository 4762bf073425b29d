-- A row without its weak references to absent rows, one column after another. Assumes nothing.
use Rattle.std.specs.Prelude.{Option, Some, None}
use mathlib.Core.Path.{◌≡◌, refl, sym, ap, ◌∙◌}
use mathlib.Core.Bool.{Bool, ◌||◌}
use mathlib.Core.List.{List, [], ◌∷◌, ◌++◌, map}
use Prim.Native.Nat.{ℕ, zero, suc, ◌+◌, ◌-◌, ◌*◌, ◌≤◌, ◌<◌}
use native.Mathlib.Numerals.{add-one}
use native.Mathlib.Omega.{arith}
use lib.Dec.{eqb}
use lib.ListN.{length, get_or, take, drop, set, replicate, length-take, length-set}
use lib.Seq.{set-get_or, set-set, take-set-lt, get_or-take, map-set_same}
use Rattle.model.specs.Base.{any, keep}
use Rattle.model.proofs.Lists.{length_keep}
use Rattle.model.specs.Schema.{Refers, plain, strong, weak, Column, Schema, columns_of}
use Rattle.model.specs.Value.{Value, elements, value_of, uuid_of, blank}
use Rattle.model.specs.Rows.{Row, key_of, key, has, column_value, set_column}
use Rattle.model.specs.Commit.{weakly, present, weaken_value, weaken_columns}
use Rattle.model.specs.Areas.{row_from}
use Rattle.model.specs.Catalog.{packed_tables, column_from, column_place}
use Rattle.inner.specs.Working.{working, table_in, key_in, value_in, TidyRow, Ordered}
use Rattle.inner.proofs.Working.{row_table, row_key}
use Rattle.inner.proofs.Ordering.{working_keys, keys_ordered}
use Rattle.inner.proofs.Columns.{column_value_lem}
use Rattle.references.specs.Links.{pick, refers_at}
use Rattle.catalog.specs.Accepted.{Accepted}
use Rattle.references.proofs.Packs.{columns_on, few_columns_lem}
use Rattle.references.proofs.Links.{values_on}
use Rattle.references.proofs.Keeping.{keep_alike}
use Rattle.garbage.specs.Weak.{kept_value, ColumnWeak, RowWeak}

-- ── one column ──
kept_weak : (rows : List Row) (r : Refers) (v : Value) → kept_value rows (weakly r) v ≡ weaken_value rows r v
unfolding kept_value
kept_weak rows plain v = refl
kept_weak rows (strong t) v = refl
kept_weak rows (weak t) v = refl

-- a column set to what it is
pub column_stays : (s : Schema) (cells : List (List ℕ)) (c : ℕ) → c < length (columns_of s (table_in cells)) → row_from s cells ≡ set_column c (value_in c cells) (row_from s cells)
column_stays s cells c h =
    let e : (row_from s cells).columns ≡ set (row_from s cells).columns c (value_in c cells) = sym (ap (set (row_from s cells).columns c) (sym (column_value_lem s cells c h)) ∙ set-get_or (row_from s cells).columns c (value_of [])) in
    λ i. record { table = (row_from s cells).table; id = (row_from s cells).id; columns = e i }

-- kept elements, and blanks up to four
pub drop_same : {A : Type 0} (k n : ℕ) (a : A) → drop k (replicate n a) ≡ replicate (n - k) a
drop_same zero n a = let e : n - 0 ≡ n = omega arith in rw e
drop_same (suc k) zero a = let e : 0 - suc k ≡ 0 = omega arith in rw e
drop_same (suc k) (suc n) a = let e : suc n - suc k ≡ n - k = omega arith in rw e (drop_same k n a)

pub kept_value_lem : (q : List ℕ → Bool) (v : Value) (out : List (List ℕ)) (r : ℕ) → r ≡ length (keep q (elements v))
    → out ≡ keep q (elements v) ++ drop r (replicate 4 blank) → record { count = r; atoms = out } ≡ value_of (keep q (elements v))
kept_value_lem q v out r k g =
    let a : out ≡ keep q (elements v) ++ replicate (4 - length (keep q (elements v))) blank =
    g ∙ ap (λ (l : List (List ℕ)). keep q (elements v) ++ l) (drop_same r 4 blank ∙ ap (λ (m : ℕ). replicate (4 - m) blank) k) in
    λ i. record { count = k i; atoms = a i }

-- they are four at most
pub kept_few : (q : List ℕ → Bool) (c : ℕ) (cells : List (List ℕ)) → length (keep q (elements (value_in c cells))) ≤ 4
unfolding value_in
kept_few q c cells =
    let v = value_in c cells in
    omega (arith, length_keep q (elements v), length-take v.count v.atoms, length-take 4 (drop (1 + 4 * c) cells))

-- ── the columns before c ──
module _ (rows : List Row) where
  abbrev pub weak_to : ℕ → List Column → List Value → List Value
  weak_to zero cs vs = vs
  weak_to (suc c) [] vs = vs
  weak_to (suc c) (x ∷ cs) [] = []
  weak_to (suc c) (x ∷ cs) (v ∷ vs) = weaken_value rows x.refers v ∷ weak_to c cs vs

  weak_all : (cs : List Column) (vs : List Value) → weak_to (length cs) cs vs ≡ weaken_columns rows cs vs
  weak_all [] vs = refl
  weak_all (x ∷ cs) [] = refl
  weak_all (x ∷ cs) (v ∷ vs) = ap (λ (l : List Value). weaken_value rows x.refers v ∷ l) (weak_all cs vs)

  weak_same : (c : ℕ) (cs : List Column) (vs : List Value) (d : Value) → get_or (weak_to c cs vs) c d ≡ get_or vs c d
  weak_same zero cs vs d = refl
  weak_same (suc c) [] vs d = refl
  weak_same (suc c) (x ∷ cs) [] d = refl
  weak_same (suc c) (x ∷ cs) (v ∷ vs) d = weak_same c cs vs d

  weak_on : (c : ℕ) (cs : List Column) (vs : List Value) (x : Column) (xs : List Column) (v : Value) (ws : List Value) → drop c cs ≡ x ∷ xs → drop c vs ≡ v ∷ ws
      → set (weak_to c cs vs) c (weaken_value rows x.refers v) ≡ weak_to (suc c) cs vs
  weak_on zero [] vs x xs v ws p q = absurd (no p)
    where
      no : [] ≡ x ∷ xs → ⊥
      no p = let z : ◌≡◌ {A = ℕ} 0 1 = cc in omega arith
  weak_on zero (y ∷ cs) [] x xs v ws p q = absurd (no q)
    where
      no : [] ≡ v ∷ ws → ⊥
      no p = let z : ◌≡◌ {A = ℕ} 0 1 = cc in omega arith
  weak_on zero (y ∷ cs) (w ∷ vs) x xs v ws p q =
      let e : y ≡ x = cc in
      let f : w ≡ v = cc in
      rw (e, f)
  weak_on (suc c) [] vs x xs v ws p q = absurd (no p)
    where
      no : [] ≡ x ∷ xs → ⊥
      no p = let z : ◌≡◌ {A = ℕ} 0 1 = cc in omega arith
  weak_on (suc c) (y ∷ cs) [] x xs v ws p q = absurd (no q)
    where
      no : [] ≡ v ∷ ws → ⊥
      no p = let z : ◌≡◌ {A = ℕ} 0 1 = cc in omega arith
  weak_on (suc c) (y ∷ cs) (w ∷ vs) x xs v ws p q = ap (λ (l : List Value). weaken_value rows y.refers w ∷ l) (weak_on c cs vs x xs v ws p q)

-- ── a row ──
module _ (schema : List (List ℕ)) (ok : Accepted schema) (n : ℕ) (rows : List (List (List ℕ))) (entry : List (List ℕ)) where
  abbrev s : Schema
  s = packed_tables schema

  abbrev width : ℕ
  width = length (columns_of s (table_in entry))

  abbrev up_to : ℕ → Row
  up_to c = record { table = (row_from s entry).table; id = (row_from s entry).id; columns = weak_to (working s n rows) c (columns_of s (table_in entry)) (row_from s entry).columns }

  pub record Weakening (c : ℕ) (now : List (List ℕ)) : Type 0 where
    pub row : row_from s now ≡ up_to c
    pub tidy : TidyRow s entry → TidyRow s now

  pub weakening_none : Weakening 0 entry
  weakening_none = record { row = refl; tidy = λ t. t }

  pub weakening_end : (c : ℕ) (row : List (List ℕ)) → c ≡ width → Weakening c row → RowWeak s n rows entry row
  weakening_end c row e w = record {
    row = w.row
        ∙ ap up_to e
        ∙ (λ i. record {
          table = (row_from s entry).table;
          id = (row_from s entry).id;
          columns = (weak_all (working s n rows) (columns_of s (table_in entry)) (row_from s entry).columns
              ∙ ap (λ (t : ℕ). weaken_columns (working s n rows) (columns_of s t) (row_from s entry).columns) (sym (row_table s entry))) i;
        });
    tidy = w.tidy;
  }

  -- a row that is on its way has the table that it had
  pub weakening_table : (c : ℕ) (row : List (List ℕ)) → Weakening c row → table_in row ≡ table_in entry
  weakening_table c row w = sym (row_table s row) ∙ ap (λ (r : Row). r.table) w.row ∙ row_table s entry

  pub weakening_on : (c t : ℕ) (o : Option ℕ) (row next : List (List ℕ)) → c < width → t ≡ table_in entry → o ≡ pick 2 (refers_at schema t c) → ColumnWeak o c n rows row next → Weakening c row → Weakening (c + 1) next
  unfolding pick refers_at
  weakening_on c t o row next h e f k w =
      let u : table_in row ≡ table_in entry = weakening_table c row w in
      let b : c < length (columns_of s (table_in row)) = rw u h in
      let v : value_in c row ≡ value_in c entry = sym (column_value_lem s row c b) ∙ ap (λ (r : Row). column_value r c) w.row ∙ weak_same (working s n rows) c (columns_of s (table_in entry)) (row_from s entry).columns (value_of []) ∙ column_value_lem s entry c h in
      let x = column_from (get_or schema (column_place (table_in entry) c) []) in
      let g : kept_value (working s n rows) o (value_in c row) ≡ weaken_value (working s n rows) x.refers (value_in c entry) =
      ap (λ (p : Option ℕ). kept_value (working s n rows) p (value_in c row)) (f ∙ ap (λ (m : ℕ). weakly (column_from (get_or schema (column_place m c) [])).refers) e)
      ∙ kept_weak (working s n rows) x.refers (value_in c row) ∙ ap (weaken_value (working s n rows) x.refers) v in
      record {
        row = k.row s b ∙ ap (λ (y : Value). set_column c y (row_from s row)) g ∙ ap (set_column c (weaken_value (working s n rows) x.refers (value_in c entry))) w.row
            ∙ (λ i. record {
              table = (row_from s entry).table;
              id = (row_from s entry).id;
              columns = (weak_on (working s n rows) c (columns_of s (table_in entry)) (row_from s entry).columns x (drop (c + 1) (columns_of s (table_in entry))) (value_in c entry) (drop (c + 1) (row_from s entry).columns)
                  (columns_on schema ok (table_in entry) c h) (values_on s entry c h) ∙ ap (λ (m : ℕ). weak_to (working s n rows) m (columns_of s (table_in entry)) (row_from s entry).columns) (sym (add-one c))) i;
            });
        tidy = λ q. k.tidy s b (few_columns_lem schema ok (table_in row)) (w.tidy q);
      }

-- ── a row at its place among the others, which it may name ──
-- what is left of a value depends only on which keys there are
kept_alike : (a b : List Row) → ((k : ℕ) → has k a ≡ has k b) → (o : Option ℕ) (v : Value) → kept_value a o v ≡ kept_value b o v
unfolding kept_value
kept_alike a b same None v = refl
kept_alike a b same (Some t) v = ap value_of (keep_alike (present a t) (present b t) (λ x. same (key_of t (uuid_of x))) (elements v))

has_in : (k : ℕ) (l : List Row) → has k l ≡ any (eqb k) (map key l)
has_in k [] = refl
has_in k (r ∷ l) = ap (λ (b : Bool). eqb k (key r) || b) (has_in k l)

module _ (schema : List (List ℕ)) (ok : Accepted schema) (n i : ℕ) (entry : List (List (List ℕ))) where
  abbrev old : List (List ℕ)
  old = get_or entry i []

  pub record Turning (c : ℕ) (rows : List (List (List ℕ))) : Type 0 where
    pub only : rows ≡ set entry i (get_or rows i [])
    pub row : Weakening schema ok n entry old c (get_or rows i [])

  pub turning_none : Turning 0 entry
  turning_none = record { only = sym (set-get_or entry i []); row = weakening_none schema ok n entry old }

  module _ (h : i < n) (c : ℕ) (rows : List (List (List ℕ))) (w : Turning c rows) where
    same_key : key_in (get_or rows i []) ≡ key_in old
    same_key = sym (row_key (packed_tables schema) (get_or rows i [])) ∙ ap key w.row.row ∙ row_key (packed_tables schema) old

    same_keys : map key_in (take n rows) ≡ map key_in (take n entry)
    same_keys =
        ap (λ (l : List (List (List ℕ))). map key_in (take n l)) w.only ∙ ap (map key_in) (take-set-lt n entry i (get_or rows i []) h)
        ∙ map-set_same key_in (take n entry) i (get_or rows i []) [] (same_key ∙ ap key_in (sym (get_or-take n entry i [] h)))

    pub turning_size : length rows ≡ length entry
    turning_size = ap length w.only ∙ length-set entry i (get_or rows i [])

    pub turning_ordered : Ordered n entry → Ordered n rows
    turning_ordered o = keys_ordered n n entry rows (omega (arith, turning_size, o.there)) same_keys o

    same_has : (s : Schema) (k : ℕ) → has k (working s n rows) ≡ has k (working s n entry)
    same_has s k = has_in k (working s n rows) ∙ ap (any (eqb k)) (working_keys s n rows ∙ same_keys ∙ sym (working_keys s n entry)) ∙ sym (has_in k (working s n entry))

    column_there : (o : Option ℕ) (from to : List (List ℕ)) → ColumnWeak o c n rows from to → ColumnWeak o c n entry from to
    column_there o from to k = record {
      row = λ s l. k.row s l ∙ ap (λ (v : Value). set_column c v (row_from s from)) (kept_alike (working s n rows) (working s n entry) (same_has s) o (value_in c from));
      tidy = k.tidy;
    }

    pub turning_on : (t : ℕ) (o : Option ℕ) (next : List (List (List ℕ))) → c < length (columns_of (packed_tables schema) (table_in old)) → t ≡ table_in old → o ≡ pick 2 (refers_at schema t c)
        → next ≡ set rows i (get_or next i []) → ColumnWeak o c n rows (get_or rows i []) (get_or next i []) → Turning (c + 1) next
    turning_on t o next l e f p k = record {
      only = p ∙ ap (λ (m : List (List (List ℕ))). set m i (get_or next i [])) w.only ∙ set-set entry i (get_or rows i []) (get_or next i []);
      row = weakening_on schema ok n entry old c t o (get_or rows i []) (get_or next i []) l e f (column_there o (get_or rows i []) (get_or next i []) k) w.row;
    }
