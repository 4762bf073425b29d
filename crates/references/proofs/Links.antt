-- What the columns of a row refer to, one column after another. Assumes nothing.
use Rattle.std.specs.Prelude.{Option, Some, None}
use mathlib.Core.Path.{◌≡◌, refl, sym, ap, ◌∙◌}
use mathlib.Core.Bool.{Bool, true, false, not, ◌&&◌, ◌||◌, beq}
use mathlib.Core.List.{List, [], ◌∷◌, ◌++◌}
use Prim.Native.Nat.{ℕ, zero, suc, ◌+◌, ◌≤◌, ◌<◌, min}
use native.Mathlib.Numerals.{add-one}
use native.Mathlib.Omega.{arith}
use borrow.Author.Tests.{ne_eqb}
use lib.Dec.{eqb}
use lib.ListN.{length, get_or, take, drop, drop_of_length-le}
use lib.Seq.{drop-cons}
use Rattle.model.specs.Base.{any, all}
use Rattle.model.specs.Schema.{Refers, Schema, columns_of}
use Rattle.model.specs.Value.{Value, elements, value_of}
use Rattle.model.specs.Commit.{keys_of, targets}
use Rattle.model.specs.Areas.{columns_from, row_from}
use Rattle.model.specs.Catalog.{refers_from, packed_tables}
use Rattle.inner.specs.Working.{table_in, value_in}
use Rattle.model.proofs.Tests.{split}
use Rattle.inner.proofs.Working.{row_table}
use Rattle.inner.proofs.Columns.{column_value_lem}
use Rattle.references.specs.Links.{pick, refers_at}
use Rattle.catalog.specs.Accepted.{Accepted}
use Rattle.references.proofs.Walks.{take_min}
use Rattle.references.proofs.Packs.{columns_on}

-- ── how a column refers, by its bytes ──
together : (a b : Bool) → beq a b ≡ true → a ≡ b
together true true e = refl
together true false e = sym e
together false true e = e
together false false e = refl

apart : (a b : Bool) → beq a b ≡ false → a ≡ not b
apart true true e = e
apart true false e = refl
apart false true e = refl
apart false false e = sym e

module _ (how k t : ℕ) where
  pub pick_plain : k ≡ 0 → None ≡ pick how (refers_from k t)
  unfolding pick refers_from
  pick_plain e = split (eqb how 1) (λ b. rw (pick, b, e)) (λ b. rw (pick, b, e))

  -- a reference of the kind that is asked for, and of the other
  pub pick_some : (k ≡ 0 → ⊥) → beq (eqb k 1) (eqb how 1) ≡ true → (Some t) ≡ pick how (refers_from k t)
  unfolding pick refers_from
  pick_some g e = split (eqb how 1)
      (λ b. rw (pick, refers_from, b, ne_eqb k 0 g, together (eqb k 1) (eqb how 1) e ∙ b))
      (λ b. rw (pick, refers_from, b, ne_eqb k 0 g, together (eqb k 1) (eqb how 1) e ∙ b))

  pub pick_other : (k ≡ 0 → ⊥) → beq (eqb k 1) (eqb how 1) ≡ false → None ≡ pick how (refers_from k t)
  unfolding pick refers_from
  pick_other g e = split (eqb how 1)
      (λ b. rw (pick, refers_from, b, ne_eqb k 0 g, apart (eqb k 1) (eqb how 1) e ∙ ap not b))
      (λ b. rw (pick, refers_from, b, ne_eqb k 0 g, apart (eqb k 1) (eqb how 1) e ∙ ap not b))

-- ── the columns and the values of a row ──
columns_length : (n : ℕ) (counts : List ℕ) (cells : List (List ℕ)) → length (columns_from n counts cells) ≡ n
columns_length zero counts cells = refl
columns_length (suc n) counts cells = ap suc (columns_length n (drop 1 counts) (drop 4 cells))

module _ (s : Schema) (cells : List (List ℕ)) where
  pub values_length : length (row_from s cells).columns ≡ length (columns_of s (table_in cells))
  unfolding row_from table_in
  values_length = columns_length (length (columns_of s (get_or (get_or cells 0 []) 0 0))) (drop 17 (get_or cells 0 [])) (drop 1 cells)

  pub values_on : (c : ℕ) → c < length (columns_of s (table_in cells)) → drop c (row_from s cells).columns ≡ value_in c cells ∷ drop (c + 1) (row_from s cells).columns
  values_on c h = drop-cons (row_from s cells).columns c (value_of []) (omega (arith, values_length)) ∙ rw (column_value_lem s cells c h, add-one c)

-- ── tests over two lists put together ──
module _ {A : Type 0} (q : A → Bool) where
  any_append : (l m : List A) → any q (l ++ m) ≡ (any q l || any q m)
  any_append [] m = refl
  any_append (a ∷ l) m = rw (any_append l m) (assoc (q a) (any q l) (any q m))
    where
      assoc : (a b c : Bool) → (a || (b || c)) ≡ ((a || b) || c)
      assoc true b c = refl
      assoc false b c = refl

  all_append : (l m : List A) → all q (l ++ m) ≡ (all q l && all q m)
  all_append [] m = refl
  all_append (a ∷ l) m = rw (all_append l m) (assoc (q a) (all q l) (all q m))
    where
      assoc : (a b c : Bool) → (a && (b && c)) ≡ ((a && b) && c)
      assoc true b c = refl
      assoc false b c = refl

-- ── what the columns from c on refer to ──
module _ (which : Refers → Option ℕ) (schema cells : List (List ℕ)) where
  abbrev pub rest_of : ℕ → List ℕ
  rest_of c = targets which (drop c (columns_of (packed_tables schema) (table_in cells))) (drop c (row_from (packed_tables schema) cells).columns)

  abbrev pub here : ℕ → List ℕ
  here c = keys_of (which (refers_at schema (table_in cells) c)) (elements (value_in c cells))

  pub rest_all : targets which (columns_of (packed_tables schema) (row_from (packed_tables schema) cells).table) (row_from (packed_tables schema) cells).columns ≡ rest_of 0
  rest_all = ap (λ (t : ℕ). targets which (columns_of (packed_tables schema) t) (row_from (packed_tables schema) cells).columns) (row_table (packed_tables schema) cells)

  pub rest_end : (c : ℕ) → length (columns_of (packed_tables schema) (table_in cells)) ≤ c → rest_of c ≡ []
  rest_end c h = rw (drop_of_length-le (columns_of (packed_tables schema) (table_in cells)) {i = c} h)

  module _ (ok : Accepted schema) (c : ℕ) (h : c < length (columns_of (packed_tables schema) (table_in cells))) where
    pub rest_on : rest_of c ≡ here c ++ rest_of (c + 1)
    unfolding refers_at
    rest_on = rw (columns_on schema ok (table_in cells) c h, values_on (packed_tables schema) cells c h)

    module _ (q : ℕ → Bool) where
      pub any_rest_here : any q (here c) ≡ true → any q (rest_of c) ≡ true
      any_rest_here e = rw (rest_on, any_append q (here c) (rest_of (c + 1)), e)

      pub any_rest_on : any q (here c) ≡ false → any q (rest_of c) ≡ any q (rest_of (c + 1))
      any_rest_on e = rw (rest_on, any_append q (here c) (rest_of (c + 1)), e)

      pub all_rest_here : all q (here c) ≡ false → all q (rest_of c) ≡ false
      all_rest_here e = rw (rest_on, all_append q (here c) (rest_of (c + 1)), e)

      pub all_rest_on : all q (here c) ≡ true → all q (rest_of c) ≡ all q (rest_of (c + 1))
      all_rest_on e = rw (rest_on, all_append q (here c) (rest_of (c + 1)), e)

-- what the code knows of column c, as the definitions say it
module _ (schema cells : List (List ℕ)) (how t c : ℕ) (e : t ≡ table_in cells) (o : Option ℕ) (r : o ≡ pick how (refers_at schema t c)) where
  pub here_target : keys_of o (elements (value_in c cells)) ≡ here (pick how) schema cells c
  here_target = ap (λ (x : Option ℕ). keys_of x (elements (value_in c cells))) (r ∙ ap (λ (x : ℕ). pick how (refers_at schema x c)) e)

-- the first atoms, as many as the count says, are the elements
pub elements_few : (v : Value) (atoms : List (List ℕ)) (n : ℕ) → atoms ≡ v.atoms → length atoms ≡ 4 → n ≡ min v.count 4 → take n atoms ≡ elements v
elements_few v atoms n e l f = rw (f, e) (sym (take_min v.count 4 v.atoms (sym (ap length e) ∙ l)))
