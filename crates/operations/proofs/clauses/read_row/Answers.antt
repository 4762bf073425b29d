-- `operations::clauses::read_row` meets its contract.
use mathlib.Core.Path.{sym, ap, ◌∙◌}
use Rattle.model.specs.Nav.{is_object}
use Rattle.operations.proofs.Slots.{object_well, row_is, row_not, row_as, row_missing}
use Rattle.operations.proofs.clauses.read_row.Goals as goal

pub read_row-requires : goal.read_row-requires
read_row-requires c =
    let y = sym (c.is_kind-o.ensures ∙ ap is_object c.kind_in-k.ensures) ∙ c.if-o.true in
    record { running = c.requires.running; at_value = object_well c.args.text.now c.args.p c.requires.slot_fine y; columns_len_bound = c.requires.columns_len_bound }

pub returns-then-o : goal.returns-then-o
returns-then-o c =
    let a = c.args in
    let y = sym (c.is_kind-o.ensures ∙ ap is_object c.kind_in-k.ensures) ∙ c.if-o.true in
    row_as (sym (row_is a.text.now a.names.now a.columns.now a.p a.insert c.requires.slot_fine y)) c.read_row.ensures

pub returns : goal.returns
returns c =
    let a = c.args in
    row_missing (row_not a.text.now a.names.now a.columns.now a.p a.insert (sym (c.is_kind-o.ensures ∙ ap is_object c.kind_in-k.ensures) ∙ c.if-o.false))
