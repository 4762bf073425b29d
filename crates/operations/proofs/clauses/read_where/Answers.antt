-- `operations::clauses::read_where` meets its contract.
use mathlib.Core.Path.{sym, ap, ◌∙◌}
use Rattle.inner.specs.Positions.{items_fine}
use Rattle.model.specs.Nav.{is_array}
use Rattle.conditions.specs.Tests.{tests_at}
use Rattle.operations.proofs.Slots.{array_fine, where_is, where_not, where_as, where_missing}
use Rattle.operations.proofs.clauses.read_where.Goals as goal

pub mark_rows-requires : goal.mark_rows-requires
mark_rows-requires c =
    let a = c.args in
    let y = sym (c.is_kind-a.ensures ∙ ap is_array c.kind_in-k.ensures) ∙ c.if-a.true in
    record { running = c.requires.running; f_value = ap (items_fine a.text.now) c.first-f.ensures ∙ array_fine a.text.now a.p c.requires.slot_fine y; columns_len_bound = c.requires.columns_len_bound }

pub returns-then-a : goal.returns-then-a
returns-then-a c =
    let a = c.args in
    let y = sym (c.is_kind-a.ensures ∙ ap is_array c.kind_in-k.ensures) ∙ c.if-a.true in
    where_as (ap (tests_at a.text.now a.names.now a.columns.now) c.first-f.ensures ∙ sym (where_is a.text.now a.names.now a.columns.now a.p c.requires.slot_fine y)) c.mark_rows.ensures

pub returns : goal.returns
returns c =
    let a = c.args in
    where_missing (where_not a.text.now a.names.now a.columns.now a.p (sym (c.is_kind-a.ensures ∙ ap is_array c.kind_in-k.ensures) ∙ c.if-a.false))
