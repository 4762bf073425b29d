-- `row_types::one_meets` meets its contract.
use Rattle.std.proofs.Common.{◌<◌, ℕ, Bool, ◌&&◌, List, sym, ap, ◌∙◌, arith}
use borrow.Author.Tests.{lt-ltb, le-ltb}
use Rattle.catalog.proofs.Laws.{few_tables, few_columns_lem}
use Rattle.model.specs.Catalog.{table_count}
use Rattle.inner.specs.Working.{table_in}
use Rattle.catalog.specs.Entries.{columns_at}
use Rattle.row_types.specs.Met.{met_from, row_meets}
use Rattle.row_types.proofs.one_meets.Goals as goal

pub columns_of-requires : goal.columns_of-requires
columns_of-requires c =
    let x = c.args.schema.now in
    let few : c.wide.result < 4 = omega (arith, few_tables x c.requires) in
    (few, few_columns_lem x c.requires c.wide.result few)

pub returns-then-t-table_count : goal.returns-then-t-table_count
unfolding row_meets
returns-then-t-table_count c =
    let x = c.args.schema.now in
    let r = c.args.row.now in
    let t = c.wide.ensures ∙ c.table_of-t.ensures in
    let h : table_in r < table_count x = omega arith in
    c.row_meets.ensures ∙ ap (λ (l : List (List ℕ)). met_from 0 l r) (c.columns_of.ensures.0 ∙ ap (columns_at x) t)
    ∙ sym (ap (λ (b : Bool). b && met_from 0 (columns_at x (table_in r)) r) (lt-ltb (table_in r) (table_count x) h))

pub returns-else-t-table_count : goal.returns-else-t-table_count
unfolding row_meets
returns-else-t-table_count c =
    let x = c.args.schema.now in
    let r = c.args.row.now in
    le-ltb _ _ c.if-t-table_count.false ∙ sym (ap (λ (b : Bool). b && met_from 0 (columns_at x (table_in r)) r) (le-ltb (table_in r) (table_count x) (omega arith)))
