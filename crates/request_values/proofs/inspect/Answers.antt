-- `request_values::inspect` meets its contract.
use Prim.Native.Nat.{ℕ, ◌≤◌}
use mathlib.Core.Path.{◌≡◌, ap, ◌∙◌}
use mathlib.Core.Bool.{Bool, true, ◌&&◌}
use lib.Dec.{leb}
use borrow.Author.Tests.{le-leb}
use Rattle.model.specs.Base.{distinct}
use Rattle.inner.specs.Positions.{tree_at}
use Rattle.model.specs.Catalog.{base_numbered, column_from}
use Rattle.elements.specs.Elements.{elements_from}
use Rattle.uuids.specs.Named.{names_at}
use Rattle.element_atoms.specs.Atoms.{atoms_of}
use Rattle.request_values.proofs.Judging.{inspected, taken_distinct}
use Rattle.request_values.proofs.inspect.Goals as goal

-- few enough, and none too long
both : (n : ℕ) (short : Bool) → n ≤ 4 → short ≡ true → (leb n 4 && short) ≡ true
both n short h e = rw (le-leb n 4 h) e

pub returns-then-t : goal.returns-then-t
returns-then-t c =
    let a = c.args in
    let s = a.text.now in
    let n = names_at s a.names.now in
    let z = column_from a.column.now in
    let t = c.tally_from-t.ensures in
    inspected n z s c.elements_at-e.result.set c.elements_at-e.result.first (tree_at s a.at) c.elements_at-e.ensures t (c.distinct-different.ensures ∙ taken_distinct n z (elements_from s c.elements_at-e.result.set c.elements_at-e.result.first) t (both _ _ c.if-t-le-ELEMENTS.true c.if-t.true))

pub returns-else-t-le-ELEMENTS : goal.returns-else-t-le-ELEMENTS
returns-else-t-le-ELEMENTS c =
    let a = c.args in
    let s = a.text.now in
    let n = names_at s a.names.now in
    let z = column_from a.column.now in
    let same = ap (λ (k : ℕ). distinct (atoms_of n (base_numbered k) (elements_from s c.elements_at-e.result.set c.elements_at-e.result.first))) c.kind-kind.ensures in
    inspected n z s c.elements_at-e.result.set c.elements_at-e.result.first (tree_at s a.at) c.elements_at-e.ensures c.tally_from-t.ensures (c.distinct_from-different.ensures ∙ same)
