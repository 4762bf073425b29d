-- `catalog::tidied::database_of` meets its contract.
use Rattle.catalog.proofs.Anew.{name_bound}
use Rattle.catalog.proofs.tidied.database_of.Goals as goal

pub database_entry_of-requires : goal.database_entry_of-requires
database_entry_of-requires c = name_bound c.args.e.now c.told-e c.requires
