-- `tables::columns_in` meets its contract.
use mathlib.Core.List.{map}
use Rattle.model.specs.Catalog.{entry_name}
use Rattle.tables.proofs.Shapes.{columns_none, columns_some}
use Rattle.tables.proofs.columns_in.Goals as goal

pub returns-then-p-eq0 : goal.returns-then-p-eq0
returns-then-p-eq0 c =
    columns_none c.args.text.now (map entry_name c.args.tables.now) c.args.cells.now c.if-p-eq0.true

pub returns-else-p-eq0 : goal.returns-else-p-eq0
returns-else-p-eq0 c =
    columns_some c.args.text.now (map entry_name c.args.tables.now) c.if-p-eq0.false c.read_columns.ensures
