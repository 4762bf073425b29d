-- `references::column_found` meets its contract.
use Rattle.std.specs.Prelude.{Option, Some}
use mathlib.Core.Path.{◌≡◌, sym, ap, ◌∙◌}
use mathlib.Core.List.{List}
use Prim.Native.Nat.{ℕ, min}
use Rattle.model.specs.Base.{all}
use Rattle.model.specs.Value.{elements}
use Rattle.model.specs.Rows.{has}
use Rattle.model.specs.Commit.{keys_of}
use Rattle.inner.specs.Working.{working, value_in}
use Rattle.references.proofs.Links.{elements_few}
use Rattle.references.proofs.column_found.Goals as goal

pub returns-in-Some : goal.returns-in-Some
returns-in-Some c =
    let a = c.args in
    let v = value_in a.c a.row.now in
    let p = c.atoms_in.ensures in
    let t = c.in-Some.t in
    let n : c.size.result ≡ min v.count 4 = c.size.ensures ∙ ap (λ (k : ℕ). min k 4) c.count_of.ensures in
    λ sc. c.all_named.ensures sc
    ∙ ap (λ (l : List (List ℕ)). all (λ (k : ℕ). has k (working sc a.n a.rows.now)) (keys_of (Some t) l)) (elements_few v c.atoms_in.result.now c.size.result p.0 p.1 n)
    ∙ ap (λ (o : Option ℕ). all (λ (k : ℕ). has k (working sc a.n a.rows.now)) (keys_of o (elements v))) (sym c.in-Some.is)

pub returns-in-None : goal.returns-in-None
returns-in-None c =
    let a = c.args in
    λ sc. ap (λ (o : Option ℕ). all (λ (k : ℕ). has k (working sc a.n a.rows.now)) (keys_of o (elements (value_in a.c a.row.now)))) (sym c.in-None.is)
