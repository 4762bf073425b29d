-- `element_atoms::cell_among` meets its contract.
use mathlib.Core.Path.{sym, ◌∙◌}
use mathlib.Core.Bool.{Bool}
use Rattle.model.specs.Json.{Json}
use Rattle.model.specs.Octets.{eq_bytes}
use Rattle.model.specs.Catalog.{base_numbered}
use Rattle.elements.proofs.Walk.{walk_less, walk_fine}
use Rattle.uuids.specs.Named.{names_at}
use Rattle.element_atoms.specs.Atoms.{atom_as}
use Rattle.element_atoms.proofs.Among.{any_end, any_here, any_on, member_any}
use Rattle.element_atoms.proofs.cell_among.Goals as goal

pub same_at-same-requires : goal.same_at-same-requires
same_at-same-requires c =
    let a = c.args in
    record { running = c.requires.running; at_value = (walk_fine a.text.now a.set c.in-Some.is c.loop-g.invariant.1).0 }

pub returns-then-same : goal.returns-then-same
returns-then-same c =
    let a = c.args in
    let q : Json → Bool = λ j. eq_bytes a.x.now (atom_as (names_at a.text.now a.names.now) (base_numbered a.kind) j) in
    sym (member_any (names_at a.text.now a.names.now) (base_numbered a.kind) a.x.now _ ∙ c.loop-g.invariant.0 ∙ any_here a.text.now a.set q c.in-Some.is (sym c.same_at-same.ensures.value ∙ c.if-same.true))

pub loop-g-smaller : goal.loop-g-smaller
loop-g-smaller c = rw c.next_element-g.ensures (walk_less c.args.text.now c.args.set c.in-Some.is)

pub loop-g-preserved : goal.loop-g-preserved
loop-g-preserved c =
    let a = c.args in
    let q : Json → Bool = λ j. eq_bytes a.x.now (atom_as (names_at a.text.now a.names.now) (base_numbered a.kind) j) in
    rw c.next_element-g.ensures
    (c.loop-g.invariant.0 ∙ any_on a.text.now a.set q c.in-Some.is (sym c.same_at-same.ensures.value ∙ c.if-same.false), (walk_fine a.text.now a.set c.in-Some.is c.loop-g.invariant.1).1)

pub returns : goal.returns
returns c =
    let a = c.args in
    let q : Json → Bool = λ j. eq_bytes a.x.now (atom_as (names_at a.text.now a.names.now) (base_numbered a.kind) j) in
    sym (member_any (names_at a.text.now a.names.now) (base_numbered a.kind) a.x.now _ ∙ c.loop-g.invariant.0 ∙ any_end a.text.now a.set q c.in_default.is)
