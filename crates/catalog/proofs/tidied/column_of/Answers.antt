-- `catalog::tidied::column_of` meets its contract.
use Rattle.catalog.proofs.Anew.{name_bound}
use Rattle.catalog.proofs.tidied.column_of.Goals as goal

pub column_entry-requires : goal.column_entry-requires
column_entry-requires c = name_bound c.args.e.now c.told-e c.requires
