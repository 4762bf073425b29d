-- `mutations::step::is_deleted` meets its contract.
use mathlib.Core.Path.{sym, ap, ◌∙◌}
use Rattle.model.specs.Base.{member}
use Rattle.model.specs.Catalog.{base_numbered}
use Rattle.uuids.specs.Named.{names_at}
use Rattle.element_atoms.specs.Atoms.{atoms_of}
use Rattle.request_values.specs.Values.{atoms_as}
use Rattle.mutations.proofs.Stepping.{read_held, read_text}
use Rattle.mutations.proofs.step.is_deleted.Goals as goal

pub returns-then-m : goal.returns-then-m
returns-then-m c =
    let a = c.args in
    c.member.ensures ∙ ap (member a.x.now) (sym (read_held a.text.now a.names.now (base_numbered a.kind) a.m a.atoms.now c.if-m.true))

pub returns : goal.returns
unfolding atoms_as
returns c =
    let a = c.args in
    let k = base_numbered a.kind in
    c.cell_among.ensures
    ∙ ap (λ l. member a.x.now (atoms_of (names_at a.text.now a.names.now) k l)) (sym c.elements_at-e.ensures.all)
    ∙ ap (member a.x.now) (sym (read_text a.text.now a.names.now k a.m a.atoms.now c.if-m.false))
