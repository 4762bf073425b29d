-- `mutations::read::column_fault` meets its contract.
use mathlib.Core.Path.{sym, ap, ◌∙◌}
use Rattle.model.specs.Faults.{earlier}
use Rattle.model.specs.Catalog.{column_from}
use Rattle.mutations.proofs.Faulty.{fault_suited, fault_not}
use Rattle.mutations.proofs.read.column_fault.Goals as goal

pub returns-then-ok : goal.returns-then-ok
returns-then-ok c =
    let a = c.args in
    c.earlier.ensures ∙ ap (earlier a.value) c.fixed_fault-w.ensures ∙ sym (fault_suited (column_from a.column.now) a.m a.value (sym c.suits-ok.ensures ∙ c.if-ok.true))

pub returns : goal.returns
returns c =
    let a = c.args in
    sym (fault_not (column_from a.column.now) a.m a.value (sym c.suits-ok.ensures ∙ c.if-ok.false))
