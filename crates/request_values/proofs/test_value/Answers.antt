-- `request_values::test_value` meets its contract.
use mathlib.Core.Bool.{true, ◌&&◌}
use Rattle.inner.specs.Positions.{tree_at}
use Rattle.model.specs.Catalog.{column_from}
use Rattle.model.specs.Written.{test_fault}
use Rattle.uuids.specs.Named.{names_at}
use Rattle.request_values.proofs.Judging.{first_is, test_is}
use Rattle.request_values.proofs.Fits.{value_given}
use Rattle.request_values.proofs.test_value.Goals as goal

pub returns : goal.returns
returns c =
    let a = c.args in
    let n = names_at a.text.now a.names.now in
    let z = column_from a.column.now in
    let j = tree_at a.text.now a.at in
    let w = c.inspect-w.ensures in
    let x = c.inspect-w.result in
    value_given n z j w (test_fault z a.f) (first_is n z.base (test_fault z a.f) j true (x.different && c.test_count-k.result) x.typed c.first_fault-v.ensures w.typed (test_is n z j w a.f c.test_count-k.ensures))
