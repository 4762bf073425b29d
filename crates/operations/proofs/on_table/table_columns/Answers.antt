-- `operations::on_table::table_columns` meets its contract.
use mathlib.Core.Path.{sym, ap, ◌∙◌}
use mathlib.Core.List.{map}
use native.Mathlib.Omega.{arith}
use Rattle.model.specs.Catalog.{column_from}
use Rattle.catalog.specs.Entries.{columns_at}
use Rattle.catalog.proofs.Laws.{few_tables, few_columns_lem}
use Rattle.area.proofs.Schemas.{columns_in}
use Rattle.operations.proofs.on_table.table_columns.Goals as goal

pub columns_of-requires : goal.columns_of-requires
columns_of-requires c =
    let here = c.requires.table_bound in
    let few = few_tables _ c.requires.accepted in
    let w = c.wide.ensures in
    (omega arith, few_columns_lem _ c.requires.accepted c.wide.result (omega arith))

pub returns : goal.returns
returns c =
    let cells = c.columns_of.ensures.0 ∙ ap (columns_at c.args.schema.now) c.wide.ensures in
    record { cells = cells; same = columns_in c.args.schema.now c.args.table c.requires.table_bound ∙ ap (map column_from) (sym cells); few = c.columns_of.ensures.1 }
