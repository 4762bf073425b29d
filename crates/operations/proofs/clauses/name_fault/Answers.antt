-- `operations::clauses::name_fault` meets its contract.
use mathlib.Core.Path.{sym, ap, ◌∙◌}
use Rattle.model.specs.Nav.{is_text}
use Rattle.model.specs.Value.{text_of}
use Rattle.operations.proofs.Slots.{name_none, name_other, name_bad, name_good}
use Rattle.operations.proofs.clauses.name_fault.Goals as goal

pub returns-then-p-eq0 : goal.returns-then-p-eq0
returns-then-p-eq0 c =
    let a = c.args in
    λ given e. name_none a.text.now a.names.now a.i given e a.p c.if-p-eq0.true

pub returns-then-id : goal.returns-then-id
returns-then-id c =
    let a = c.args in
    let y = sym (c.is_kind-t.ensures ∙ ap is_text c.kind_at-k.ensures) ∙ c.if-t.true in
    λ given e. name_good a.text.now a.names.now a.i given e a.p c.if-p-eq0.false y (c.text_of-name.ensures ∙ ap text_of c.name_at-cell.ensures) (sym c.is_id-id.ensures ∙ c.if-id.true) c.taken_fault.ensures

pub returns-then-t : goal.returns-then-t
returns-then-t c =
    let a = c.args in
    let y = sym (c.is_kind-t.ensures ∙ ap is_text c.kind_at-k.ensures) ∙ c.if-t.true in
    λ given e. name_bad a.text.now a.names.now a.i given e a.p c.if-p-eq0.false y (c.text_of-name.ensures ∙ ap text_of c.name_at-cell.ensures) (sym c.is_id-id.ensures ∙ c.if-id.false)

pub returns : goal.returns
returns c =
    let a = c.args in
    λ given e. name_other a.text.now a.names.now a.i given e a.p c.if-p-eq0.false (sym (c.is_kind-t.ensures ∙ ap is_text c.kind_at-k.ensures) ∙ c.if-t.false)
