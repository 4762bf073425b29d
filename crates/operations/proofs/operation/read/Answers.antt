-- `operations::operation::read` meets its contract.
use mathlib.Core.Path.{sym, ◌∙◌}
use native.Mathlib.Omega.{arith}
use Rattle.inner.specs.Positions.{tree_at}
use Rattle.model.specs.Members.{members_in}
use Rattle.operations.proofs.Choosing.{table_small, called_off, called_on, called_nowhere}
use Rattle.operations.proofs.operation.read.Goals as goal

pub returns-in_default : goal.returns-in_default
returns-in_default c =
    let a = c.args in
    called_nowhere a.text.now a.schema.now c.operation_at-k.ensures (sym c.is_on_table-on.ensures ∙ c.if-on.true) c.table_in-f.ensures c.in_default.is

pub overflow_cast-result : goal.overflow_cast-result
overflow_cast-result c = let x = table_small c.args.schema.now (members_in (tree_at c.args.text.now c.args.op)) c.table_in-f.ensures c.in-Some.is in
    let y = c.requires.schema_bound in
    omega arith

pub returns-then-on : goal.returns-then-on
returns-then-on c =
    let a = c.args in
    called_on a.text.now a.schema.now c.operation_at-k.ensures (sym c.is_on_table-on.ensures ∙ c.if-on.true) c.table_in-f.ensures c.in-Some.is

pub returns : goal.returns
returns c =
    let a = c.args in
    called_off a.text.now a.schema.now c.operation_at-k.ensures (sym c.is_on_table-on.ensures ∙ c.if-on.false)
