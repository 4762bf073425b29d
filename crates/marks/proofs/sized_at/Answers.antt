-- `marks::sized_at` meets its contract.
use mathlib.Core.Path.{sym, ap, subst, ◌∙◌}
use mathlib.Core.List.{[], ◌∷◌}
use Prim.Native.Nat.{min}
use native.Mathlib.Omega.{arith}
use Rattle.model.specs.Octets.{value}
use Rattle.model.specs.Value.{uuid_atom}
use Rattle.inner.specs.Working.{id_in, value_in}
use Rattle.marks.specs.Marks.{InRow, atoms_at, Sized}
use Rattle.marks.proofs.Atoms.{elements_min}
use Rattle.marks.proofs.sized_at.Goals as goal

pub atoms_in-xs-requires : goal.atoms_in-xs-requires
unfolding InRow
atoms_in-xs-requires c =
    subst InRow c.in-Column.is c.requires

pub count_of-requires : goal.count_of-requires
unfolding InRow
count_of-requires c =
    subst InRow c.in-Column.is c.requires

pub slice_bounds-is_sized-end : goal.slice_bounds-is_sized-end
slice_bounds-is_sized-end c =
    (elements_min (value_in c.in-Column.c c.args.row.now) c.atoms_in-xs.ensures.0 c.atoms_in-xs.ensures.1 (c.size-n.ensures ∙ ap (λ x. min x 4) c.count_of.ensures)).1

pub returns-in-Column : goal.returns-in-Column
unfolding atoms_at
returns-in-Column c =
    let a = c.args in
    let e = elements_min (value_in c.in-Column.c a.row.now) c.atoms_in-xs.ensures.0 c.atoms_in-xs.ensures.1 (c.size-n.ensures ∙ ap (λ x. min x 4) c.count_of.ensures) in
    (c.is_sized.ensures.0, subst (λ q. Sized (atoms_at q a.row.now)) (sym c.in-Column.is) (subst Sized e.0 (record { few = omega (arith, e.1, e.2); bytes = c.is_sized.ensures.1 })))

pub returns-in-Id : goal.returns-in-Id
unfolding atoms_at id_in
returns-in-Id c =
    let a = c.args in
    let e = c.atom_of.ensures ∙ ap (λ b. uuid_atom (value b)) c.id_of.ensures.bytes in
    (c.is_sized-in-Id.ensures.0, subst (λ q. Sized (atoms_at q a.row.now)) (sym c.in-Id.is) (subst (λ y. Sized (y ∷ [])) e (record { few = omega arith; bytes = c.is_sized-in-Id.ensures.1 })))
