-- `operations::clauses::mutate_rows` meets its contract.
use mathlib.Core.Path.{sym, ap, ◌∙◌}
use Rattle.inner.specs.Positions.{items_fine}
use Rattle.model.specs.Nav.{is_array}
use Rattle.mutations.specs.Mutating.{mutations_at}
use Rattle.operations.proofs.Slots.{array_fine, mutations_are, mutations_not, mutated_as, mutated_missing}
use Rattle.operations.proofs.clauses.mutate_rows.Goals as goal

pub mutate_rows-requires : goal.mutate_rows-requires
mutate_rows-requires c =
    let a = c.args in
    let y = sym (c.is_kind-a.ensures ∙ ap is_array c.kind_in-k.ensures) ∙ c.if-a.true in
    record { running = c.requires.running; f_value = ap (items_fine a.text.now) c.first-f.ensures ∙ array_fine a.text.now a.p c.requires.slot_fine y; columns_len_bound = c.requires.columns_len_bound; n_le_most_rows = c.requires.n_le_most_rows }

pub returns-then-a : goal.returns-then-a
returns-then-a c =
    let a = c.args in
    let y = sym (c.is_kind-a.ensures ∙ ap is_array c.kind_in-k.ensures) ∙ c.if-a.true in
    mutated_as (ap (mutations_at a.text.now a.names.now a.columns.now) c.first-f.ensures ∙ sym (mutations_are a.text.now a.names.now a.columns.now a.p c.requires.slot_fine y)) c.mutate_rows.ensures

pub returns : goal.returns
returns c =
    let a = c.args in
    mutated_missing (mutations_not a.text.now a.names.now a.columns.now a.p (sym (c.is_kind-a.ensures ∙ ap is_array c.kind_in-k.ensures) ∙ c.if-a.false))
