-- `request_values::mutation_value` meets its contract.
use Rattle.inner.specs.Positions.{tree_at}
use Rattle.model.specs.Catalog.{column_from}
use Rattle.model.specs.Mutations.{mutation_fault}
use Rattle.uuids.specs.Named.{names_at}
use Rattle.request_values.specs.Values.{MutationFault}
use Rattle.request_values.proofs.Fits.{value_given}
use Rattle.request_values.proofs.mutation_value.Goals as goal

pub returns : goal.returns
unfolding MutationFault
returns c =
    let w = c.inspect-w.ensures in
    let a = c.args in
    let n = names_at a.text.now a.names.now in
    let z = column_from a.column.now in
    let j = tree_at a.text.now a.at in
    value_given n z j w (mutation_fault z a.m) (c.mutation_fault-v.ensures n j _ w)
