-- `element_sets::distinct_from` meets its contract.
use mathlib.Core.Path.{sym, ap, ◌∙◌}
use Rattle.model.specs.Base.{member}
use Rattle.inner.specs.Positions.{tree_at}
use Rattle.model.specs.Catalog.{base_numbered}
use Rattle.elements.specs.Elements.{elements_from, elements_fine}
use Rattle.elements.proofs.Walk.{walk_fine, walk_less}
use Rattle.uuids.specs.Named.{names_at}
use Rattle.element_atoms.specs.Atoms.{atom_as, atoms_of}
use Rattle.element_sets.proofs.Tallying.{distinct_by, distinct_end}
use Rattle.element_sets.proofs.distinct_from.Goals as goal

pub again-d-requires : goal.again-d-requires
again-d-requires c =
    let a = c.args in
    let w = walk_fine a.text.now a.set c.in-Some.is c.loop-g.invariant.1 in
    record { running = c.requires.running; at_value = w.0; f_value = ap (elements_fine a.text.now a.set) c.next_element-n.ensures ∙ w.1 }

pub returns-then-d : goal.returns-then-d
returns-then-d c =
    let a = c.args in
    let n = names_at a.text.now a.names.now in
    let k = base_numbered a.kind in
    let s = a.text.now in
    let m = c.again-d.ensures ∙ ap (λ f. member (atom_as n k (tree_at s c.in-Some.p)) (atoms_of n k (elements_from s a.set f))) c.next_element-n.ensures in
    sym (c.loop-g.invariant.0 ∙ distinct_by n k s a.set c.in-Some.is (sym c.if-d.true ∙ m))

pub loop-g-smaller : goal.loop-g-smaller
loop-g-smaller c = rw c.next_element-n.ensures (walk_less c.args.text.now c.args.set c.in-Some.is)

pub loop-g-preserved : goal.loop-g-preserved
loop-g-preserved c =
    let a = c.args in
    let n = names_at a.text.now a.names.now in
    let k = base_numbered a.kind in
    let s = a.text.now in
    let m = c.again-d.ensures ∙ ap (λ f. member (atom_as n k (tree_at s c.in-Some.p)) (atoms_of n k (elements_from s a.set f))) c.next_element-n.ensures in
    rw c.next_element-n.ensures
    (c.loop-g.invariant.0 ∙ distinct_by n k s a.set c.in-Some.is (sym c.if-d.false ∙ m), (walk_fine s a.set c.in-Some.is c.loop-g.invariant.1).1)

pub returns : goal.returns
returns c =
    let a = c.args in
    sym (c.loop-g.invariant.0 ∙ distinct_end (names_at a.text.now a.names.now) (base_numbered a.kind) a.text.now a.set c.in_default.is)
