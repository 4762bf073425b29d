-- `conditions::narrow_each` meets its contract.
use mathlib.Core.Path.{sym, ap, ◌∙◌}
use mathlib.Core.List.{List, []}
use Prim.Native.Nat.{ℕ}
use lib.ListN.{get_or}
use Rattle.model.specs.Catalog.{base_numbered}
use Rattle.elements.proofs.Walk.{walk_rest, walk_end, walk_less, walk_fine}
use Rattle.uuids.specs.Named.{names_at}
use Rattle.element_atoms.specs.Atoms.{atoms_of}
use Rattle.request_values.specs.Values.{atoms_as}
use Rattle.marks.specs.Marks.{every, atoms_at}
use Rattle.marks.proofs.Meeting.{left_on, left_end, narrowed_as}
use Rattle.conditions.proofs.Beyond.{every_cons, every_none}
use Rattle.conditions.proofs.narrow_each.Goals as goal

pub narrow_element-requires : goal.narrow_element-requires
narrow_element-requires c =
    let set = c.elements_at-e.result.set in
    record { running = c.requires.running; at_value = (walk_fine c.args.text.now set c.in-Some.is c.loop-g.invariant.0).0; in_row = c.requires.in_row }

pub loop-g-smaller : goal.loop-g-smaller
loop-g-smaller c =
    let a = c.args in
    rw c.next_element-g.ensures (walk_less a.text.now c.elements_at-e.result.set c.in-Some.is)

pub loop-g-preserved : goal.loop-g-preserved
unfolding atoms_of
loop-g-preserved c =
    let a = c.args in
    let set = c.elements_at-e.result.set in
    let h = c.in-Some.is in
    let n = names_at a.text.now a.names.now in
    let k = base_numbered a.test.kind in
    rw c.next_element-g.ensures (
      (walk_fine a.text.now set h c.loop-g.invariant.0).1,
      left_on _ _ _ _ c.loop-g.invariant.1 _ _ c.narrow_element.ensures
          (λ (i : ℕ) m t. ap (λ js. every a.stored (atoms_at a.test.place (get_or a.rows.now i [])) (atoms_of n k js)) (walk_rest a.text.now set h) ∙ every_cons a.stored (atoms_at a.test.place (get_or a.rows.now i [])) _ _),
    )

pub returns : goal.returns
unfolding atoms_of atoms_as
returns c =
    let a = c.args in
    let n = names_at a.text.now a.names.now in
    let k = base_numbered a.test.kind in
    narrowed_as (λ (row : List (List ℕ)). ap (λ js. every a.stored (atoms_at a.test.place row) (atoms_of n k js)) (sym c.elements_at-e.ensures.all))
    (left_end _ _ _ _ c.loop-g.invariant.1 (λ (row : List (List ℕ)). ap (λ js. every a.stored (atoms_at a.test.place row) (atoms_of n k js)) (walk_end a.text.now c.elements_at-e.result.set c.in_default.is) ∙ every_none a.stored (atoms_at a.test.place row)))
