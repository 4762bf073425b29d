-- `catalog::tidied_columns::database_entry_of` meets its contract.
use Rattle.catalog.proofs.Renewed.{database_made}
use Rattle.catalog.proofs.tidied_columns.database_entry_of.Goals as goal

pub returns : goal.returns
returns c =
    database_made c.args.e.now c.named-out.result c.requires c.named-out.ensures c.table_count.result c.table_count.ensures
