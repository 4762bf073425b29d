-- `marks::holds` meets its contract.
use mathlib.Core.Path.{sym, ap, subst, ◌∙◌}
use mathlib.Core.List.{[], ◌∷◌}
use Prim.Native.Nat.{min}
use Rattle.model.specs.Octets.{value}
use Rattle.model.specs.Value.{uuid_atom}
use Rattle.inner.specs.Working.{id_in, value_in}
use Rattle.marks.specs.Marks.{met, InRow, atoms_at}
use Rattle.marks.proofs.Atoms.{elements_min}
use Rattle.marks.proofs.holds.Goals as goal

pub atoms_in-xs-requires : goal.atoms_in-xs-requires
unfolding InRow
atoms_in-xs-requires c =
    subst InRow c.in-Column.is c.requires

pub count_of-requires : goal.count_of-requires
unfolding InRow
count_of-requires c =
    subst InRow c.in-Column.is c.requires

pub slice_bounds-compare-end : goal.slice_bounds-compare-end
slice_bounds-compare-end c =
    (elements_min (value_in c.in-Column.c c.args.row.now) c.atoms_in-xs.ensures.0 c.atoms_in-xs.ensures.1 (c.size-n.ensures ∙ ap (λ x. min x 4) c.count_of.ensures)).1

pub returns-in-Column : goal.returns-in-Column
unfolding atoms_at
returns-in-Column c =
    let a = c.args in
    c.compare.ensures ∙ ap (λ xs. met a.f xs a.l.now) (elements_min (value_in c.in-Column.c a.row.now) c.atoms_in-xs.ensures.0 c.atoms_in-xs.ensures.1 (c.size-n.ensures ∙ ap (λ x. min x 4) c.count_of.ensures)).0 ∙ ap (λ q. met a.f (atoms_at q a.row.now) a.l.now) (sym c.in-Column.is)

pub returns-in-Id : goal.returns-in-Id
unfolding atoms_at id_in
returns-in-Id c =
    let a = c.args in
    c.compare-in-Id.ensures ∙ ap (λ y. met a.f (y ∷ []) a.l.now) (c.atom_of.ensures ∙ ap (λ b. uuid_atom (value b)) c.id_of.ensures.bytes) ∙ ap (λ q. met a.f (atoms_at q a.row.now) a.l.now) (sym c.in-Id.is)
