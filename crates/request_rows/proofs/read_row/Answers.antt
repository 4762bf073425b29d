-- `request_rows::read_row` meets its contract.
use Rattle.request_rows.proofs.Reading.{read_known, read_unknown}
use Rattle.request_rows.proofs.read_row.Goals as goal

pub returns-then-k : goal.returns-then-k
returns-then-k c =
    let a = c.args in
    read_known a.insert a.text.now a.names.now a.columns.now a.at c.known-k.ensures c.if-k.true c.read_columns.ensures

pub returns : goal.returns
returns c =
    let a = c.args in
    read_unknown a.insert a.text.now a.names.now a.columns.now a.at c.known-k.ensures c.if-k.false
