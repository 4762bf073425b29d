-- `columns::put_columns` meets its contract.
use mathlib.Core.List.{map}
use Rattle.model.specs.Catalog.{entry_name}
use Rattle.columns.proofs.Listing.{put_more, put_end}
use Rattle.columns.proofs.put_columns.Goals as goal

pub loop-i-preserved : goal.loop-i-preserved
loop-i-preserved c =
    put_more c.args.text.now (map entry_name c.args.tables.now) c.args.n c.args.places.now c.args.cells.now c.requires.n_le_most_columns c.requires.n_in_bounds c.requires.most_columns_in_bounds c.loop-i.invariant c.loop-i-test.true c.read_column-c.result c.read_column-c.ensures

pub returns : goal.returns
returns c =
    put_end c.args.text.now (map entry_name c.args.tables.now) c.args.n c.args.places.now c.args.cells.now c.loop-i.invariant c.loop-i-test.false
