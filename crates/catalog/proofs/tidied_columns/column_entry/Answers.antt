-- `catalog::tidied_columns::column_entry` meets its contract.
use Rattle.catalog.proofs.Renewed.{column_made}
use Rattle.catalog.proofs.tidied_columns.column_entry.Goals as goal

pub returns : goal.returns
returns c =
    column_made c.args.e.now c.named-out.result c.requires c.named-out.ensures c.put_rest.new.out c.put_rest.ensures
