-- `catalog::tidied::table_of` meets its contract.
use Rattle.catalog.proofs.Anew.{name_bound}
use Rattle.catalog.proofs.tidied.table_of.Goals as goal

pub table_entry-requires : goal.table_entry-requires
table_entry-requires c = record { e_bound = name_bound c.args.e.now c.told-e c.requires.e_len_bound; e_value = c.requires.e_value }
