-- `operations::on_table::new_id` meets its contract.
use Rattle.operations.proofs.Doing.{id_copied}
use Rattle.operations.proofs.on_table.new_id.Goals as goal

pub returns : goal.returns
returns c =
    id_copied c.args.names.now c.args.i c.id_at.result.now c.id_at.ensures c.put_bytes.ensures
