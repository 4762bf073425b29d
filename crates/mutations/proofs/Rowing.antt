-- A row mutated, one mutation after another. Assumes nothing.
use mathlib.Core.Path.{◌≡◌, refl, sym, ap, ◌∙◌}
use mathlib.Core.Bool.{Bool, true, false}
use mathlib.Core.List.{List, [], ◌∷◌, map}
use Prim.Native.Nat.{ℕ, ◌≤◌, ◌<◌}
use native.Mathlib.Omega.{arith}
use lib.ListN.{length, get_or, length-map}
use Rattle.model.specs.Schema.{Column, Schema, columns_of}
use Rattle.model.specs.Value.{Value, elements, value_of}
use Rattle.model.specs.Rows.{Row, column_value, set_column}
use Rattle.model.specs.Faults.{is_fine, Judged}
use Rattle.model.specs.Areas.{row_from}
use Rattle.inner.specs.Working.{table_in, value_in}
use Rattle.model.specs.Mutations.{Mutation, mutate_once, steps}
use Rattle.model.specs.Catalog.{column_from}
use Rattle.model.specs.declared.Fault.{Fault}
use Rattle.model.specs.declared.Fault.TheVariants.{Fine}
use Rattle.inner.proofs.Working.{row_table}
use Rattle.inner.proofs.Columns.{column_value_lem}
use Rattle.mutations.specs.Steps.{elements_of, mutated_on, Stepped}
use Rattle.mutations.specs.Mutating.{elements_read, mutation_from}
use Rattle.mutations.specs.Rows.{RowStepped}
use Rattle.mutations.specs.declared.read.Mutation.{Mutation as Read}

-- ── on a column of the row, and on the row ──
module _ (text names : List ℕ) (cells : List (List ℕ)) (few : length cells ≤ 6) (m : Read) (held : List (List ℕ)) (l : m.place < length cells) (r : Fault) (entry exit : List (List ℕ)) where
  abbrev cs : List Column
  cs = map column_from cells

  abbrev column : Column
  column = column_from (get_or cells m.place [])

  abbrev atoms : List (List ℕ)
  atoms = elements_read text names column.base m held

  width : (s : Schema) → columns_of s (table_in entry) ≡ cs → length (columns_of s (table_in entry)) ≡ length cells
  width s h = ap length h ∙ length-map cells column_from

  value : (s : Schema) → columns_of s (table_in entry) ≡ cs → value_in m.place entry ≡ column_value (row_from s entry) m.place
  value s h = sym (column_value_lem s entry m.place (omega (arith, width s h)))

  pub row_stepped : Stepped (mutated_on column m.mutator atoms (elements_of m.place entry)) m.place r entry exit → RowStepped cs (mutation_from text names cells m held) r entry exit
  unfolding mutated_on elements_of mutation_from
  row_stepped p = record {
    fault = λ s h. p.fault ∙ ap (λ (x : Value). (mutated_on column m.mutator atoms (elements x)).fault) (value s h);
    row = λ s h f. p.row f s ∙ ap (λ (x : Value). set_column m.place (value_of (mutated_on column m.mutator atoms (elements x)).got) (row_from s entry)) (value s h);
    unchanged = p.unchanged;
    tidy = λ s h t. p.tidy s (omega (arith, width s h)) (omega (arith, width s h)) t;
  }

-- ── one after another ──
module _ (m : Mutation) (ms : List Mutation) (r : Row) where
  abbrev after : Bool → Judged Row
  after b = elim b [ true ↦ steps ms (mutate_once m r).got | false ↦ mutate_once m r ]

  steps_on : is_fine (mutate_once m r).fault ≡ true → steps (m ∷ ms) r ≡ steps ms (mutate_once m r).got
  steps_on e = ap after e

  steps_stop : is_fine (mutate_once m r).fault ≡ false → steps (m ∷ ms) r ≡ mutate_once m r
  steps_stop e = ap after e

-- what all mutations make of a row is what the rest makes of the row as it is now
pub record Going (cs : List Column) (all rest : List Mutation) (entry now : List (List ℕ)) : Type 0 where
  pub table : (s : Schema) → columns_of s (table_in entry) ≡ cs → columns_of s (table_in now) ≡ cs
  pub same : (s : Schema) → columns_of s (table_in entry) ≡ cs → steps all (row_from s entry) ≡ steps rest (row_from s now)

pub going_none : (cs : List Column) (all : List Mutation) (entry : List (List ℕ)) → Going cs all all entry entry
going_none cs all entry = record { table = λ s h. h; same = λ s h. refl }

module _ {cs : List Column} {all : List Mutation} {m : Mutation} {ms : List Mutation} {entry now : List (List ℕ)} (g : Going cs all (m ∷ ms) entry now) where
  pub going_on : {after : List (List ℕ)} → RowStepped cs m Fine now after → Going cs all ms entry after
  going_on {after} p = record {
    table = λ s h. ap (columns_of s) (sym (row_table s after) ∙ ap (λ (q : Row). q.table) (p.row s (g.table s h) refl) ∙ row_table s now) ∙ g.table s h;
    same = λ s h. g.same s h ∙ steps_on m ms (row_from s now) (ap is_fine (sym (p.fault s (g.table s h)))) ∙ ap (steps ms) (sym (p.row s (g.table s h) refl));
  }

  pub going_stop : {r : Fault} {after : List (List ℕ)} → RowStepped cs m r now after → is_fine r ≡ false → (s : Schema) → columns_of s (table_in entry) ≡ cs → (steps all (row_from s entry)).fault ≡ r
  going_stop p f s h = ap (λ (q : Judged Row). q.fault) (g.same s h ∙ steps_stop m ms (row_from s now) (ap is_fine (sym (p.fault s (g.table s h))) ∙ f)) ∙ sym (p.fault s (g.table s h))
