-- `columns::read_columns` meets its contract.
use mathlib.Core.Path.{◌≡◌}
use lib.ListN.{length}
use mathlib.Core.List.{map}
use native.Mathlib.Omega.{arith}
use Rattle.inner.specs.Positions.{tree_at}
use Rattle.model.specs.Catalog.{entry_name}
use Rattle.columns.proofs.Listing.{none_read, bad_read, all_read}
use Rattle.columns.proofs.read_columns.Goals as goal
use Rattle.columns.proofs.read_columns.Goals.{else-n-le-COLUMNS-via-then-n-le-COLUMNS+else-put_columns, else-n-le-COLUMNS-via-else-n-le-COLUMNS}

pub returns-then-put_columns : goal.returns-then-put_columns
returns-then-put_columns c =
    let l = c.if-n-le-COLUMNS.true in
    let k : length c.collect-n.new.places ≡ 6 = c.collect-n.auto.places in
    all_read c.args.text.now (map entry_name c.args.tables.now) (tree_at c.args.text.now c.args.at) c.args.cells.now c.collect-n.ensures c.if-n-le-COLUMNS.true c.put_columns.ensures (omega arith) c.if-put_columns.true

pub returns : goal.returns
returns c =
    let s = c.args.text.now in
    let ns = map entry_name c.args.tables.now in
    let j = tree_at s c.args.at in
    elim c.else-n-le-COLUMNS.branch [
      | else-n-le-COLUMNS-via-then-n-le-COLUMNS+else-put_columns w ↦ rw w.cells-is (bad_read s ns j c.args.cells.now c.collect-n.ensures w.if-n-le-COLUMNS.true w.put_columns.ensures w.if-put_columns.false)
      | else-n-le-COLUMNS-via-else-n-le-COLUMNS w ↦ rw w.cells-is (none_read s ns j c.args.cells.now c.collect-n.ensures w.if-n-le-COLUMNS.false)
    ]
