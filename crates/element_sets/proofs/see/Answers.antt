-- `element_sets::see` meets its contract.
use mathlib.Core.Path.{subst}
use Prim.Native.Nat.{ℕ}
use Rattle.inner.specs.Positions.{tree_at}
use Rattle.model.specs.Catalog.{base_numbered, column_from}
use Rattle.uuids.specs.Named.{names_at}
use Rattle.element_atoms.specs.Atoms.{Reads}
use Rattle.element_sets.proofs.Tallying.{sees_wrong, sees_fits, sees_long}
use Rattle.element_sets.proofs.see.Goals as goal

pub returns-in-Wrong : goal.returns-in-Wrong
returns-in-Wrong c =
    let a = c.args in
    let n = names_at a.text.now a.names.now in
    let j = tree_at a.text.now a.at in
    let z = column_from a.column.now in
    let cell = c.atom_at-a.new.out in
    let read = subst (λ (b : ℕ). Reads n (base_numbered b) j c.atom_at-a.result cell) c.kind-kind.ensures c.atom_at-a.ensures in
    sees_wrong n z j cell (subst (λ r. Reads n z.base j r cell) c.in-Wrong.is read) c.within.ensures

pub returns-in-Long : goal.returns-in-Long
returns-in-Long c =
    let a = c.args in
    let n = names_at a.text.now a.names.now in
    let j = tree_at a.text.now a.at in
    let z = column_from a.column.now in
    let cell = c.atom_at-a.new.out in
    let read = subst (λ (b : ℕ). Reads n (base_numbered b) j c.atom_at-a.result cell) c.kind-kind.ensures c.atom_at-a.ensures in
    sees_long n z j cell (subst (λ r. Reads n z.base j r cell) c.in-Long.is read) c.long_chars-n.ensures c.count_in_limits.ensures

pub returns-in-Fits : goal.returns-in-Fits
returns-in-Fits c =
    let a = c.args in
    let n = names_at a.text.now a.names.now in
    let j = tree_at a.text.now a.at in
    let z = column_from a.column.now in
    let cell = c.atom_at-a.new.out in
    let read = subst (λ (b : ℕ). Reads n (base_numbered b) j c.atom_at-a.result cell) c.kind-kind.ensures c.atom_at-a.ensures in
    sees_fits n z j cell (subst (λ r. Reads n z.base j r cell) c.in-Fits.is read) c.within-in-Fits.ensures
