-- `catalog::id_column` meets its contract.
use Rattle.model.specs.Catalog.{base_numbered, refers_from}
use Rattle.catalog.proofs.id_column.Goals as goal

pub returns : goal.returns
unfolding base_numbered refers_from
returns c = rw c.copy_from_slice.ensures.after
