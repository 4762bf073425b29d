-- `conditions::narrow_beyond` meets its contract.
use mathlib.Core.Path.{sym, ap, ◌∙◌}
use mathlib.Core.Bool.{not}
use mathlib.Core.List.{List}
use Prim.Native.Nat.{ℕ}
use Rattle.inner.specs.Positions.{tree_at}
use Rattle.model.specs.Catalog.{base_numbered}
use Rattle.model.specs.Conditions.{orders, compare}
use Rattle.model.proofs.Tests.{clash}
use Rattle.uuids.specs.Named.{names_at}
use Rattle.request_values.specs.Values.{atoms_as}
use Rattle.marks.specs.Marks.{every, atoms_at}
use Rattle.marks.proofs.Meeting.{narrowed_as}
use Rattle.conditions.proofs.Beyond.{unequal, ordered}
use Rattle.conditions.proofs.narrow_beyond.Goals as goal

pub returns-in-Less : goal.returns-in-Less
returns-in-Less c =
    absurd (clash (orders c.args.test.function) (ordered c.in-Less.is) c.requires.beyond.unordered)

pub returns-in-Equal : goal.returns-in-Equal
returns-in-Equal c =
    let a = c.args in
    let n = names_at a.text.now a.names.now in
    let k = base_numbered a.test.kind in
    let j = tree_at a.text.now a.at in
    c.narrow_all.ensures (λ (row : List (List ℕ)). compare a.test.function k (atoms_at a.test.place row) (atoms_as n k j))
    (λ (row : List (List ℕ)) s. ap (λ f. compare f k (atoms_at a.test.place row) (atoms_as n k j)) c.in-Equal.is ∙ unequal n k j (atoms_at a.test.place row) s c.requires.beyond.unfit)

pub returns-in-Unequal : goal.returns-in-Unequal
returns-in-Unequal c =
    let a = c.args in
    let n = names_at a.text.now a.names.now in
    let k = base_numbered a.test.kind in
    let j = tree_at a.text.now a.at in
    c.narrow_all-in-Unequal.ensures (λ (row : List (List ℕ)). compare a.test.function k (atoms_at a.test.place row) (atoms_as n k j))
    (λ (row : List (List ℕ)) s. ap (λ f. compare f k (atoms_at a.test.place row) (atoms_as n k j)) c.in-Unequal.is ∙ ap not (unequal n k j (atoms_at a.test.place row) s c.requires.beyond.unfit))

pub returns-in-Includes : goal.returns-in-Includes
unfolding every
returns-in-Includes c =
    let a = c.args in
    let n = names_at a.text.now a.names.now in
    let k = base_numbered a.test.kind in
    let j = tree_at a.text.now a.at in
    narrowed_as (λ (row : List (List ℕ)). ap (λ f. compare f k (atoms_at a.test.place row) (atoms_as n k j)) (sym c.in-Includes.is)) c.narrow_each.ensures

pub returns-in-Excludes : goal.returns-in-Excludes
unfolding every
returns-in-Excludes c =
    let a = c.args in
    let n = names_at a.text.now a.names.now in
    let k = base_numbered a.test.kind in
    let j = tree_at a.text.now a.at in
    narrowed_as (λ (row : List (List ℕ)). ap (λ f. compare f k (atoms_at a.test.place row) (atoms_as n k j)) (sym c.in-Excludes.is)) c.narrow_each-in-Excludes.ensures
