-- `references::width` meets its contract.
use mathlib.Core.Path.{◌≡◌, sym, ap, ◌∙◌}
use native.Mathlib.Omega.{arith}
use lib.ListN.{length, get_or}
use Rattle.model.specs.Catalog.{columns_offset, table_count, column_count}
use Rattle.catalog.proofs.Laws.{few_tables}
use Rattle.references.proofs.Packs.{columns_out, width_is}
use mathlib.Core.List.{[]}
use Prim.Native.Nat.{ℕ, ◌+◌, ◌<◌}
use Rattle.references.proofs.width.Goals as goal

pub returns-then-table_count-table : goal.returns-then-table_count-table
returns-then-table_count-table c =
    sym (ap length (columns_out c.args.schema.now c.args.table (omega (arith, c.table_count.ensures, c.if-table_count-table.true))))

pub bounds-schema-wide : goal.bounds-schema-wide
bounds-schema-wide c =
    omega (arith, few_tables c.args.schema.now c.requires, c.table_count.ensures, c.if-table_count-table.false, c.wide.ensures)

pub returns-else-table_count-table : goal.returns-else-table_count-table
returns-else-table_count-table c =
    let said : c.wide-else-table_count-table.result ≡ column_count c.args.schema.now c.args.table = c.wide-else-table_count-table.ensures ∙ c.width.ensures
    ∙ ap (λ (n : ℕ). get_or (get_or c.args.schema.now (1 + n) []) columns_offset 0) c.wide.ensures in
    let there : c.args.table < table_count c.args.schema.now = omega (arith, c.table_count.ensures, c.if-table_count-table.false) in
    omega (arith, said, width_is c.args.schema.now c.requires c.args.table (there))
