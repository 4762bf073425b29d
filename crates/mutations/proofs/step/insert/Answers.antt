-- `mutations::step::insert` meets its contract.
use mathlib.Core.Path.{◌≡◌, ap, ◌∙◌, refl}
use mathlib.Core.List.{List}
use Prim.Native.Nat.{ℕ, min}
use native.Mathlib.Omega.{arith}
use lib.ListN.{length, take}
use Rattle.model.specs.Catalog.{base_numbered}
use Rattle.model.specs.Value.{union}
use Rattle.model.specs.Catalog.{column_from}
use Rattle.inner.specs.Working.{value_in}
use Rattle.model.specs.declared.Fault.TheVariants.{Fine, Resources, Constraint}
use Rattle.references.proofs.Links.{elements_few}
use Rattle.mutations.specs.Steps.{elements_of, inserted_on}
use Rattle.value.proofs.Fours.{padded}
use Rattle.mutations.proofs.Stepping.{stepped_set, stepped_stop, insert_many, insert_most_lem, insert_good, insert_value}
use Rattle.mutations.proofs.step.insert.Goals as goal

pub returns-then-u-gt-ELEMENTS : goal.returns-then-u-gt-ELEMENTS
unfolding elements_of
returns-then-u-gt-ELEMENTS c =
    let same : let a = c.args in take c.size-n.result c.atoms_of-atoms.result ≡ elements_of a.c a.row.now = let a = c.args in
    let v = value_in a.c a.row.now in
    elements_few v c.atoms_of-atoms.result c.size-n.result c.atoms_of-atoms.ensures (omega (arith, c.atoms_of-atoms.type_inv)) (c.size-n.ensures ∙ ap (λ (i : ℕ). min i 4) c.count_of.ensures) in
    let count : let a = c.args in c.union_count-u.result ≡ length (union (column_from a.column.now).base (elements_of a.c a.row.now) a.more.now) = let a = c.args in
    let z = column_from a.column.now in
    c.union_count-u.ensures z.base ∙ ap (λ (l : List (List ℕ)). length (union z.base l a.more.now)) (same) in
    let a = c.args in
    let z = column_from a.column.now in
    stepped_stop (inserted_on z a.more.now (elements_of a.c a.row.now)) a.c Resources a.row.now (insert_many z a.more.now (elements_of a.c a.row.now) c.union_count-u.result (count) c.if-u-gt-ELEMENTS.true) refl

pub returns-then-max-u : goal.returns-then-max-u
unfolding elements_of
returns-then-max-u c =
    let same : let a = c.args in take c.size-n.result c.atoms_of-atoms.result ≡ elements_of a.c a.row.now = let a = c.args in
    let v = value_in a.c a.row.now in
    elements_few v c.atoms_of-atoms.result c.size-n.result c.atoms_of-atoms.ensures (omega (arith, c.atoms_of-atoms.type_inv)) (c.size-n.ensures ∙ ap (λ (i : ℕ). min i 4) c.count_of.ensures) in
    let count : let a = c.args in c.union_count-u.result ≡ length (union (column_from a.column.now).base (elements_of a.c a.row.now) a.more.now) = let a = c.args in
    let z = column_from a.column.now in
    c.union_count-u.ensures z.base ∙ ap (λ (l : List (List ℕ)). length (union z.base l a.more.now)) (same) in
    let a = c.args in
    let z = column_from a.column.now in
    stepped_stop (inserted_on z a.more.now (elements_of a.c a.row.now)) a.c Constraint a.row.now (insert_most_lem z a.more.now (elements_of a.c a.row.now) c.union_count-u.result (count) c.if-u-gt-ELEMENTS.false (omega (arith, c.if-max-u.true, c.wide-max.ensures, c.maximum.ensures))) refl

pub returns : goal.returns
unfolding elements_of
returns c =
    let same : let a = c.args in take c.size-n.result c.atoms_of-atoms.result ≡ elements_of a.c a.row.now = let a = c.args in
    let v = value_in a.c a.row.now in
    elements_few v c.atoms_of-atoms.result c.size-n.result c.atoms_of-atoms.ensures (omega (arith, c.atoms_of-atoms.type_inv)) (c.size-n.ensures ∙ ap (λ (i : ℕ). min i 4) c.count_of.ensures) in
    let count : let a = c.args in c.union_count-u.result ≡ length (union (column_from a.column.now).base (elements_of a.c a.row.now) a.more.now) = let a = c.args in
    let z = column_from a.column.now in
    c.union_count-u.ensures z.base ∙ ap (λ (l : List (List ℕ)). length (union z.base l a.more.now)) (same) in
    let a = c.args in
    let z = column_from a.column.now in
    let x = elements_of a.c a.row.now in
    stepped_set (inserted_on z a.more.now x) a.c Fine a.row.now c.set_column.new.row
    (insert_good z a.more.now x c.union_count-u.result (count) c.if-u-gt-ELEMENTS.false (omega (arith, c.if-max-u.false, c.wide-max.ensures, c.maximum.ensures)))
    refl
    (record { count = c.union_count-u.result; atoms = c.unite-all.result })
    (insert_value z a.more.now x c.union_count-u.result (count) c.unite-all.result (c.unite-all.ensures ∙ ap (λ (l : List (List ℕ)). padded (union (base_numbered c.kind-kind.result) l a.more.now)) (same) ∙ ap (λ (b : ℕ). padded (union (base_numbered b) x a.more.now)) c.kind-kind.ensures))
    c.set_column.ensures
