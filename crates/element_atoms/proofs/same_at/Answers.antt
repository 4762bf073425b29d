-- `element_atoms::same_at` meets its contract.
use mathlib.Core.Path.{◌≡◌, refl, sym, ap, subst, ◌∙◌}
use native.Mathlib.Omega.{arith}
use lib.ListN.{length}
use Rattle.model.specs.Octets.{eq_bytes}
use Rattle.inner.specs.Positions.{tree_at}
use Rattle.model.specs.Catalog.{base_numbered}
use Rattle.model.proofs.Tests.{clash}
use Rattle.uuids.specs.Named.{names_at}
use Rattle.element_atoms.specs.Atoms.{Reads}
use Rattle.element_atoms.proofs.Reading.{short_cell, long_other}
use Rattle.element_atoms.proofs.same_at.Goals as goal

pub returns-in-Long : goal.returns-in-Long
returns-in-Long c =
    let a = c.args in
    let n = names_at a.text.now a.names.now in
    let j = tree_at a.text.now a.at in
    let cell = c.atom_at.new.out in
    let l : length a.x.now ≡ 25 = omega arith in
    record { value = sym (long_other n j (base_numbered a.kind) cell (subst (λ r. Reads n (base_numbered a.kind) j r cell) c.in-Long.is c.atom_at.ensures) a.x.now l); at_value_2 = λ h. absurd (clash _ h refl) }

pub returns-in-Wrong : goal.returns-in-Wrong
returns-in-Wrong c =
    let a = c.args in
    let q = short_cell (names_at a.text.now a.names.now) (tree_at a.text.now a.at) (base_numbered a.kind) c.atom_at.new.out c.in-Wrong.is c.atom_at.ensures in
    record { value = c.same.ensures ∙ ap (eq_bytes a.x.now) (sym q.0); at_value_2 = λ h. q.1 }
