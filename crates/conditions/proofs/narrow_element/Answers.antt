-- `conditions::narrow_element` meets its contract.
use mathlib.Core.Path.{sym, ap, subst, ◌∙◌}
use mathlib.Core.List.{List, [], ◌∷◌}
use Prim.Native.Nat.{ℕ}
use Rattle.inner.specs.Positions.{tree_at}
use Rattle.model.specs.Catalog.{base_numbered}
use Rattle.uuids.specs.Named.{names_at}
use Rattle.element_atoms.specs.Atoms.{atom_as, Reads}
use Rattle.element_atoms.proofs.Reading.{short_cell}
use Rattle.marks.specs.Marks.{every, met, atoms_at}
use Rattle.marks.proofs.Meeting.{narrowed_as}
use Rattle.conditions.proofs.Beyond.{long_stored, stored_met}
use Rattle.conditions.proofs.narrow_element.Goals as goal

pub returns-in-Wrong : goal.returns-in-Wrong
returns-in-Wrong c =
    let a = c.args in
    let n = names_at a.text.now a.names.now in
    let k = base_numbered a.test.kind in
    let j = tree_at a.text.now a.at in
    let cell = c.atom_at-a.new.out in
    let q = short_cell n j k cell c.in-Wrong.is c.atom_at-a.ensures in
    narrowed_as
    (λ (row : List (List ℕ)). ap (λ x. met x (atoms_at a.test.place row) (cell ∷ [])) c.storing-f.ensures ∙ stored_met a.stored (atoms_at a.test.place row) (cell ∷ []) ∙ ap (λ y. every a.stored (atoms_at a.test.place row) (y ∷ [])) (sym q.0))
    c.narrow.ensures

pub returns-in-Long : goal.returns-in-Long
returns-in-Long c =
    let a = c.args in
    let n = names_at a.text.now a.names.now in
    let k = base_numbered a.test.kind in
    let j = tree_at a.text.now a.at in
    let cell = c.atom_at-a.new.out in
    let q = subst (λ r. Reads n k j r cell) c.in-Long.is c.atom_at-a.ensures in
    c.narrow_all.ensures (λ (row : List (List ℕ)). every a.stored (atoms_at a.test.place row) (atom_as n k j ∷ [])) (λ (row : List (List ℕ)) s. long_stored n k j (atoms_at a.test.place row) s a.stored cell q)
