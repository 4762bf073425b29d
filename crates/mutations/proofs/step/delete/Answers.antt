-- `mutations::step::delete` meets its contract.
use mathlib.Core.Path.{◌≡◌, ap, ◌∙◌, refl}
use Prim.Native.Nat.{ℕ, min}
use native.Mathlib.Omega.{arith}
use lib.ListN.{take}
use Rattle.model.specs.Value.{without}
use Rattle.model.specs.Catalog.{base_numbered, column_from}
use Rattle.inner.specs.Working.{value_in}
use Rattle.model.specs.declared.Fault.TheVariants.{Fine, Constraint}
use Rattle.references.proofs.Links.{elements_few}
use Rattle.mutations.specs.Steps.{elements_of, deleted_on, Kept}
use Rattle.mutations.specs.Mutating.{elements_read}
use Rattle.mutations.proofs.Stepping.{stepped_set, stepped_stop, delete_least, delete_good, delete_value, kept_as_lem}
use Rattle.mutations.proofs.step.delete.Goals as goal

pub returns-then-few : goal.returns-then-few
unfolding elements_of
returns-then-few c =
    let same : let a = c.args in take c.size-n.result c.atoms_of-xs.result ≡ elements_of a.m.place a.row.now = let a = c.args in
    elements_few (value_in a.m.place a.row.now) c.atoms_of-xs.result c.size-n.result c.atoms_of-xs.ensures (omega (arith, c.atoms_of-xs.type_inv)) (c.size-n.ensures ∙ ap (λ (i : ℕ). min i 4) c.count_of.ensures) in
    let left : let a = c.args in Kept (without (elements_read a.text.now a.names.now (column_from a.column.now).base a.m a.atoms.now) (elements_of a.m.place a.row.now)) c.keep_others-k.result c.keep_others-k.new.out = let a = c.args in
    let x = take c.size-n.result c.atoms_of-xs.result in
    kept_as_lem
    (ap (λ (q : ℕ). without (elements_read a.text.now a.names.now (base_numbered q) a.m a.atoms.now) x) c.kind-kind.ensures
    ∙ ap (without (elements_read a.text.now a.names.now (column_from a.column.now).base a.m a.atoms.now)) (same))
    c.keep_others-k.ensures in
    let a = c.args in
    let z = column_from a.column.now in
    let l = elements_read a.text.now a.names.now z.base a.m a.atoms.now in
    let x = elements_of a.m.place a.row.now in
    stepped_stop (deleted_on z l x) a.m.place Constraint a.row.now (delete_least z l x c.keep_others-k.result (left).size (omega (arith, c.if-few.true, c.wide-min.ensures, c.minimum.ensures))) refl

pub returns : goal.returns
unfolding elements_of
returns c =
    let same : let a = c.args in take c.size-n.result c.atoms_of-xs.result ≡ elements_of a.m.place a.row.now = let a = c.args in
    elements_few (value_in a.m.place a.row.now) c.atoms_of-xs.result c.size-n.result c.atoms_of-xs.ensures (omega (arith, c.atoms_of-xs.type_inv)) (c.size-n.ensures ∙ ap (λ (i : ℕ). min i 4) c.count_of.ensures) in
    let left : let a = c.args in Kept (without (elements_read a.text.now a.names.now (column_from a.column.now).base a.m a.atoms.now) (elements_of a.m.place a.row.now)) c.keep_others-k.result c.keep_others-k.new.out = let a = c.args in
    let x = take c.size-n.result c.atoms_of-xs.result in
    kept_as_lem
    (ap (λ (q : ℕ). without (elements_read a.text.now a.names.now (base_numbered q) a.m a.atoms.now) x) c.kind-kind.ensures
    ∙ ap (without (elements_read a.text.now a.names.now (column_from a.column.now).base a.m a.atoms.now)) (same))
    c.keep_others-k.ensures in
    let a = c.args in
    let z = column_from a.column.now in
    let l = elements_read a.text.now a.names.now z.base a.m a.atoms.now in
    let x = elements_of a.m.place a.row.now in
    let m = c.keep_others-k.result in
    let left-atoms = c.keep_others-k.new.out in
    stepped_set (deleted_on z l x) a.m.place Fine a.row.now c.set_column.new.row
    (delete_good z l x m (left).size (omega (arith, c.if-few.false, c.wide-min.ensures, c.minimum.ensures)))
    refl
    (record { count = m; atoms = left-atoms })
    (delete_value z l x m (left).size left-atoms (left).cells)
    c.set_column.ensures
