-- `request_values::mutation_fault` meets its contract.
use mathlib.Core.Path.{sym, ap, ◌∙◌}
use mathlib.Core.Bool.{true, ◌&&◌}
use lib.Dec.{eqb, leb}
use Rattle.model.specs.Catalog.{column_from}
use Rattle.model.specs.Written.{insert_fault, delete_fault, written}
use Rattle.model.specs.Mutations.{mutation_fault}
use Rattle.request_values.specs.Values.{atoms_as, MutationFault}
use Rattle.request_values.proofs.Judging.{first_is, insert_is, delete_is, operand_is, five_fault}
use Rattle.request_values.proofs.mutation_fault.Goals as goal

pub returns-in-Insert : goal.returns-in-Insert
unfolding MutationFault
returns-in-Insert c names j atoms p =
    let a = c.args in
    let z = column_from a.column.now in
    let x = a.w in
    first_is names z.base (insert_fault z) j (leb x.count 4 && x.short) ((x.different && x.within) && leb x.count c.most-max.result) x.typed c.first_fault.ensures p.typed (insert_is names z j p c.most-max.ensures)
    ∙ sym (ap (λ k. (written names z.base (mutation_fault z k) j).fault) c.in-Insert.is)

pub returns-in-Delete : goal.returns-in-Delete
unfolding MutationFault
returns-in-Delete c names j atoms p =
    let a = c.args in
    let z = column_from a.column.now in
    let x = a.w in
    first_is names z.base (delete_fault z) j true (x.different && x.within) x.typed c.first_fault-in-Delete.ensures p.typed (delete_is names z j p)
    ∙ sym (ap (λ k. (written names z.base (mutation_fault z k) j).fault) c.in-Delete.is)

pub returns-in_default : goal.returns-in_default
unfolding MutationFault
returns-in_default c names j atoms p =
    let a = c.args in
    let z = column_from a.column.now in
    let x = a.w in
    first_is names z.base (mutation_fault z a.m) j true (eqb x.count 1) x.typed c.first_fault-in_default.ensures p.typed (operand_is names z j p ∙ five_fault z a.m (c.in_default.not-Insert, c.in_default.not-Delete) (atoms_as names z.base j))
