-- `element_sets::tally_from` meets its contract.
use mathlib.Core.Path.{refl}
use native.Mathlib.Omega.{arith}
use Rattle.model.specs.Catalog.{column_from}
use Rattle.elements.specs.Elements.{elements_from}
use Rattle.elements.proofs.Walk.{walk_rest, walk_end, walk_fine, walk_less, left_le}
use Rattle.uuids.specs.Named.{names_at}
use Rattle.element_sets.proofs.Tallying.{counted_on, counted_end}
use Rattle.element_sets.proofs.Gathering.{kept_on, kept_end}
use Rattle.element_sets.proofs.tally_from.Goals as goal

pub see-s-requires : goal.see-s-requires
see-s-requires c =
    let a = c.args in
    record { running = c.requires.running; at_value = (walk_fine a.text.now a.set c.in-Some.is c.loop-g.invariant.1).0 }

pub overflow_add-count : goal.overflow_add-count
overflow_add-count c =
    let a = c.args in
    omega (arith, walk_less a.text.now a.set c.in-Some.is, c.loop-g.invariant.2, left_le a.text.now a.f)

pub loop-g-smaller : goal.loop-g-smaller
loop-g-smaller c = rw c.next_element-g.ensures (walk_less c.args.text.now c.args.set c.in-Some.is)

pub loop-g-preserved : goal.loop-g-preserved
loop-g-preserved c =
    let a = c.args in
    let s = a.text.now in
    let n = names_at s a.names.now in
    let z = column_from a.column.now in
    let e = c.in-Some.is in
    let l = c.loop-g.invariant in
    let seen = c.see-s.ensures in
    rw c.next_element-g.ensures (
      counted_on n z (elements_from s a.set a.f) l.0 (walk_rest s a.set e) seen,
      (walk_fine s a.set e l.1).1,
      omega (arith, walk_less s a.set e, l.2),
      kept_on n z.base s a.set l.3 e seen.atom c.put_atom.ensures refl,
    )

pub returns : goal.returns
returns c =
    let a = c.args in
    let n = names_at a.text.now a.names.now in
    let z = column_from a.column.now in
    let e = c.in_default.is in
    let l = c.loop-g.invariant in
    counted_end n z (elements_from a.text.now a.set a.f) l.0 (walk_end a.text.now a.set e) (kept_end n z.base a.text.now a.set l.3 e)
