-- What happens at the commit: four steps. Assumes nothing: these are definitions.
use Rattle.std.specs.Prelude.{ℕ, zero, suc, Bool, true, false, not, ◌&&◌, List, [], ◌∷◌, ◌++◌, map, eqb, leb, length, Option, Some, None}
use Rattle.model.specs.Base.{any, all, keep, every}
use Rattle.model.specs.Schema.{Refers, plain, strong, weak, Column, Table, Schema, columns_of, is_root}
use Rattle.model.specs.Value.{Value, same_value, elements, value_of, uuid_of}
use Rattle.model.specs.Rows.{Row, key_of, key, has, remove, column_value, of_table}
use Rattle.model.specs.Faults.{check, Judged}
use Rattle.model.specs.declared.Fault.TheVariants.{Fine, Constraint, Integrity}

-- the keys of the rows that the elements of a column refer to
abbrev pub keys_of : Option ℕ → List (List ℕ) → List ℕ
keys_of None l = []
keys_of (Some t) l = map (λ (a : List ℕ). key_of t (uuid_of a)) l

abbrev pub targets : (Refers → Option ℕ) → List Column → List Value → List ℕ
targets which [] vs = []
targets which (c ∷ cs) [] = []
targets which (c ∷ cs) (v ∷ vs) = keys_of (which c.refers) (elements v) ++ targets which cs vs

abbrev pub strongly : Refers → Option ℕ
strongly plain = None
strongly (strong t) = Some t
strongly (weak t) = None

abbrev pub weakly : Refers → Option ℕ
weakly plain = None
weakly (strong t) = None
weakly (weak t) = Some t

abbrev pub strong_of : Schema → Row → List ℕ
strong_of s r = targets strongly (columns_of s r.table) r.columns

abbrev pub weak_of : Schema → Row → List ℕ
weak_of s r = targets weakly (columns_of s r.table) r.columns

-- 1. "Any strong reference, from any working row, to no row of its table"
abbrev pub all_found : Schema → List Row → Bool
all_found s rows = all (λ (r : Row). all (λ (k : ℕ). has k rows) (strong_of s r)) rows

-- 2. "A row of a non-root table with no strong reference from a different row goes, and again until none is left"
abbrev pub loose : Schema → List Row → Row → Bool
loose s rows r = not (is_root s r.table) && not (any (λ (q : Row). not (eqb (key q) (key r)) && any (eqb (key r)) (strong_of s q)) rows)

abbrev pub first_loose : Schema → List Row → List Row → Option ℕ
first_loose s rows [] = None
first_loose s rows (r ∷ rs) = elim (loose s rows r) [ true ↦ Some (key r) | false ↦ first_loose s rows rs ]

-- n bounds how often: each turn takes one row away
abbrev pub collect : Schema → ℕ → List Row → List Row
collect s zero rows = rows
collect s (suc n) rows = elim (first_loose s rows rows) [ None ↦ rows | Some k ↦ collect s n (remove k rows) ]

-- 3. "Weak references to absent rows are removed"
abbrev pub present : List Row → ℕ → List ℕ → Bool
present rows t a = has (key_of t (uuid_of a)) rows

abbrev pub weaken_value : List Row → Refers → Value → Value
weaken_value rows plain v = v
weaken_value rows (strong t) v = v
weaken_value rows (weak t) v = value_of (keep (present rows t) (elements v))

abbrev pub weaken_columns : List Row → List Column → List Value → List Value
weaken_columns rows [] vs = vs
weaken_columns rows (c ∷ cs) [] = []
weaken_columns rows (c ∷ cs) (v ∷ vs) = weaken_value rows c.refers v ∷ weaken_columns rows cs vs

abbrev pub weaken_row : Schema → List Row → Row → Row
weaken_row s rows r = record { table = r.table; id = r.id; columns = weaken_columns rows (columns_of s r.table) r.columns }

abbrev pub weaken : Schema → List Row → List Row
weaken s rows = map (weaken_row s rows) rows

-- 4. "A column below its minimum, a table above maxRows, or two rows equal in an index"
abbrev pub enough : List Column → List Value → Bool
enough [] vs = true
enough (c ∷ cs) [] = true
enough (c ∷ cs) (v ∷ vs) = leb c.min v.count && enough cs vs

abbrev pub all_enough : Schema → List Row → Bool
all_enough s rows = all (λ (r : Row). enough (columns_of s r.table) r.columns) rows

abbrev pub same_at : List ℕ → Row → Row → Bool
same_at index r q = all (λ (c : ℕ). same_value (column_value r c) (column_value q c)) index

abbrev pub unique : List ℕ → List Row → Bool
unique index [] = true
unique index (r ∷ rs) = not (any (same_at index r) rs) && unique index rs

abbrev pub not_over : Option ℕ → ℕ → Bool
not_over None n = true
not_over (Some m) n = leb n m

abbrev pub table_good : Table → List Row → Bool
table_good x rows = not_over x.max_rows (length rows) && all (λ (index : List ℕ). unique index rows) x.indexes

abbrev pub tables_good : ℕ → Schema → List Row → Bool
tables_good t [] rows = true
tables_good t (x ∷ s) rows = table_good x (of_table t rows) && tables_good (suc t) s rows

-- the rows after steps 2 and 3, and what the four steps say of working rows
abbrev pub settled : Schema → List Row → List Row
settled s rows = weaken s (collect s (length rows) rows)

abbrev pub commit : Schema → List Row → Judged (List Row)
commit s rows =
    let u = settled s rows in
    record {
      fault = check (all_found s rows) Integrity (check (all_enough s u && tables_good 0 s u) Constraint Fine);
      got = u;
    }

-- "every commit rule below holds" of the rows of a store (good order)
abbrev pub lawful : Schema → List Row → Bool
lawful s rows =
    every
    (all_found s rows
    ∷ not (any (loose s rows) rows)
    ∷ all (λ (r : Row). all (λ (k : ℕ). has k rows) (weak_of s r)) rows
    ∷ all_enough s rows
    ∷ tables_good 0 s rows
    ∷ [])
