-- `mutations::step::arithmetic` meets its contract.
use mathlib.Core.Path.{◌≡◌, sym, ap, ◌∙◌}
use mathlib.Core.List.{List}
use Prim.Native.Nat.{ℕ, min}
use native.Mathlib.Omega.{arith}
use lib.IntN.{ℤ}
use lib.ListN.{length, take}
use lib.Seq.{length-take-le}
use Rattle.model.specs.Value.{int_of}
use Rattle.model.specs.Faults.{Judged}
use Rattle.model.specs.Catalog.{column_from}
use Rattle.inner.specs.Working.{value_in}
use Rattle.integers.specs.Ints.{int_in}
use Rattle.references.proofs.Links.{elements_few}
use Rattle.mutations.specs.Steps.{elements_of, arithmetic_on}
use Rattle.mutations.proofs.Calculating.{int_in_lem, arithmetic_value}
use Rattle.mutations.proofs.Stepping.{stepped_set, stepped_stop, stepped_as}
use Rattle.mutations.proofs.step.arithmetic.Goals as goal

pub returns-then-ok : goal.returns-then-ok
unfolding elements_of
returns-then-ok c =
    let same : let a = c.args in ◌≡◌ {A = Judged (List (List ℕ))} (arithmetic_on (column_from a.column.now) a.m (int_in c.of_atom.result) (take c.size-n.result c.atoms_in-atoms.result.now)) (arithmetic_on (column_from a.column.now) a.m (int_of a.operand.now) (elements_of a.c a.row.now)) = let a = c.args in
    let v = value_in a.c a.row.now in
    let z = column_from a.column.now in
    let n : c.size-n.result ≡ min v.count 4 = c.size-n.ensures ∙ ap (λ (i : ℕ). min i 4) c.count_of.ensures in
    ap (λ (y : ℤ). arithmetic_on z a.m y (take c.size-n.result c.atoms_in-atoms.result.now)) (ap int_in c.of_atom.ensures ∙ int_in_lem (int_of a.operand.now))
    ∙ ap (arithmetic_on z a.m (int_of a.operand.now)) (elements_few v c.atoms_in-atoms.result.now c.size-n.result c.atoms_in-atoms.ensures.0 c.atoms_in-atoms.ensures.1 n) in
    let a = c.args in
    let z = column_from a.column.now in
    let n = c.size-n.result in
    let x = take n c.atoms_in-atoms.result.now in
    let b = int_in c.of_atom.result in
    let o = c.results-f.new.out in
    let m : n ≡ length x = sym (length-take-le n c.atoms_in-atoms.result.now (omega (arith, c.size-n.ensures, c.atoms_in-atoms.ensures.1))) in
    let y = sym c.is_fine-ok.ensures ∙ c.if-ok.true in
    stepped_as (same)
    (stepped_set (arithmetic_on z a.m b x) a.c c.results-f.result a.row.now c.set_column.new.row c.results-f.ensures.fault y (record { count = n; atoms = c.sort-sorted.result })
    (arithmetic_value z a.m b x n o c.sort-sorted.result m (ap (λ (i : ℕ). take i o) m ∙ c.results-f.ensures.atoms y) c.sort-sorted.ensures) c.set_column.ensures)

pub returns-else-ok : goal.returns-else-ok
unfolding elements_of
returns-else-ok c =
    let same : let a = c.args in ◌≡◌ {A = Judged (List (List ℕ))} (arithmetic_on (column_from a.column.now) a.m (int_in c.of_atom.result) (take c.size-n.result c.atoms_in-atoms.result.now)) (arithmetic_on (column_from a.column.now) a.m (int_of a.operand.now) (elements_of a.c a.row.now)) = let a = c.args in
    let v = value_in a.c a.row.now in
    let z = column_from a.column.now in
    let n : c.size-n.result ≡ min v.count 4 = c.size-n.ensures ∙ ap (λ (i : ℕ). min i 4) c.count_of.ensures in
    ap (λ (y : ℤ). arithmetic_on z a.m y (take c.size-n.result c.atoms_in-atoms.result.now)) (ap int_in c.of_atom.ensures ∙ int_in_lem (int_of a.operand.now))
    ∙ ap (arithmetic_on z a.m (int_of a.operand.now)) (elements_few v c.atoms_in-atoms.result.now c.size-n.result c.atoms_in-atoms.ensures.0 c.atoms_in-atoms.ensures.1 n) in
    let a = c.args in
    let z = column_from a.column.now in
    let x = take c.size-n.result c.atoms_in-atoms.result.now in
    let b = int_in c.of_atom.result in
    stepped_as (same) (stepped_stop (arithmetic_on z a.m b x) a.c c.results-f.result a.row.now c.results-f.ensures.fault (sym c.is_fine-ok.ensures ∙ c.if-ok.false))
