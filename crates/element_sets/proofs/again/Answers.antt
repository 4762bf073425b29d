-- `element_sets::again` meets its contract.
use mathlib.Core.Path.{sym, ap, subst, ◌∙◌}
use Rattle.model.specs.Base.{member}
use Rattle.inner.specs.Positions.{tree_at}
use Rattle.model.specs.Catalog.{base_numbered}
use Rattle.elements.specs.Elements.{elements_from}
use Rattle.uuids.specs.Named.{names_at}
use Rattle.element_atoms.specs.Atoms.{Reads, atoms_of}
use Rattle.element_atoms.proofs.Reading.{short_cell}
use Rattle.element_sets.proofs.Tallying.{again_long}
use Rattle.element_sets.proofs.again.Goals as goal

pub returns-in-Wrong : goal.returns-in-Wrong
returns-in-Wrong c =
    let a = c.args in
    let n = names_at a.text.now a.names.now in
    let k = base_numbered a.kind in
    let q = short_cell n (tree_at a.text.now a.at) k c.atom_at-a.new.out c.in-Wrong.is c.atom_at-a.ensures in
    c.cell_among.ensures ∙ ap (λ x. member x (atoms_of n k (elements_from a.text.now a.set a.f))) (sym q.0)

pub returns-in-Long : goal.returns-in-Long
returns-in-Long c =
    let a = c.args in
    let n = names_at a.text.now a.names.now in
    let k = base_numbered a.kind in
    let j = tree_at a.text.now a.at in
    let cell = c.atom_at-a.new.out in
    c.long_among.ensures ∙ sym (again_long n k j cell (elements_from a.text.now a.set a.f) (subst (λ r. Reads n k j r cell) c.in-Long.is c.atom_at-a.ensures))
