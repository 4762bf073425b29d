-- `catalog::tidied_columns::named` meets its contract.
use Rattle.catalog.proofs.Renewed.{name_made}
use Rattle.catalog.proofs.tidied_columns.named.Goals as goal

pub returns : goal.returns
returns c =
    name_made c.args.e.now c.told-e c.requires c.name_of.result.now c.put_bytes.new.out c.name_of.ensures c.put_bytes.ensures
