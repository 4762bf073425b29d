-- `operations::operation::table_in` meets its contract.
use Rattle.inner.specs.Positions.{tree_at}
use Rattle.model.specs.Members.{members_in}
use Rattle.model.specs.Catalog.{packed_tables}
use Rattle.operations.proofs.Choosing.{table_there, table_missing}
use Rattle.operations.proofs.operation.table_in.Goals as goal

pub returns-in-Some : goal.returns-in-Some
returns-in-Some c =
    let a = c.args in
    table_there (packed_tables a.schema.now) a.text.now (members_in (tree_at a.text.now a.op)) c.find-f.ensures c.in-Some.is c.table_at.ensures

pub returns-in-None : goal.returns-in-None
returns-in-None c =
    let a = c.args in
    table_missing (packed_tables a.schema.now) a.text.now (members_in (tree_at a.text.now a.op)) c.find-f.ensures c.in-None.is
