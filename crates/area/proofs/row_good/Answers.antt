-- `area::row_good` meets its contract.
use Rattle.std.proofs.Common.{arith}
use Rattle.std.proofs.lemmas.Grind.{common_steps}
use mathlib.Core.Path.{sym, ap, ◌∙◌}
use mathlib.Core.List.{List, []}
use Prim.Native.Nat.{ℕ, ◌<◌}
use lib.ListN.{length, get_or}
use Rattle.inner.specs.Working.{table_in}
use Rattle.area.specs.Layout.{tidy_from, canonical_from}
use Rattle.catalog.proofs.Laws.{few_tables, few_columns_lem}
use Rattle.catalog.specs.Entries.{columns_at}
use Rattle.area.proofs.Schemas.{no_table, no_id, not_tidy, all_good}
use Rattle.area.proofs.row_good.Goals as goal
use Rattle.area.proofs.row_good.Goals.{then-has_some_id, else-has_some_id}

pub returns-then-table_count-t : goal.returns-then-table_count-t
returns-then-table_count-t c =
    let a = c.args in
    sym (no_table a.schema.now a.row.now (omega (arith, c.table_count.ensures, c.table_of-t.ensures)))

pub columns_of-cells-requires : goal.columns_of-cells-requires
columns_of-cells-requires c =
    let l : c.wide.result < 4 = omega (arith, few_tables c.args.schema.now c.requires, c.wide.ensures, c.table_count.ensures, c.if-table_count-t.false) in
    (l, few_columns_lem c.args.schema.now c.requires c.wide.result l)

pub returns-then-tidy_row : goal.returns-then-tidy_row
returns-then-tidy_row c =
    let x = c.args.schema.now in
    let r = c.args.row.now in
    let t = c.wide.ensures ∙ c.table_of-t.ensures in
    let h : table_in r < get_or (get_or x 0 []) 25 0 = omega arith in
    let e = c.columns_of-cells.ensures.0 ∙ ap (columns_at x) t in
    let d = ap (λ (l : List (List ℕ)). tidy_from (length l) r) (sym e) in
    elim c.if-has_some_id.branch [
      | then-has_some_id w ↦ c.canonical_row.ensures ∙ ap (λ (l : List (List ℕ)). canonical_from 0 l r) e ∙ sym (all_good x r h (sym c.has_some_id.ensures ∙ w.if-has_some_id.true) (d ∙ sym w.tidy_row.ensures ∙ sym w.value-is ∙ c.if-tidy_row.true))
      | else-has_some_id w ↦ grind (arith, common_steps)
    ]

pub returns-else-tidy_row : goal.returns-else-tidy_row
returns-else-tidy_row c =
    let x = c.args.schema.now in
    let r = c.args.row.now in
    let t = c.wide.ensures ∙ c.table_of-t.ensures in
    let h : table_in r < get_or (get_or x 0 []) 25 0 = omega arith in
    let e = c.columns_of-cells.ensures.0 ∙ ap (columns_at x) t in
    let d = ap (λ (l : List (List ℕ)). tidy_from (length l) r) (sym e) in
    elim c.if-has_some_id.branch [
      | then-has_some_id w ↦ c.if-tidy_row.false ∙ sym (not_tidy x r h (d ∙ sym w.tidy_row.ensures ∙ sym w.value-is ∙ c.if-tidy_row.false))
      | else-has_some_id w ↦ c.if-tidy_row.false ∙ sym (no_id x r (sym c.has_some_id.ensures ∙ w.if-has_some_id.false))
    ]
