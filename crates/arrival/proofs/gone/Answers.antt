-- `arrival::gone` meets its contract.
use mathlib.Core.List.{[]}
use mathlib.Core.Path.{sym, ◌∙◌}
use native.Mathlib.Omega.{arith}
use Rattle.inner.proofs.Places.{place_at, place_none}
use Rattle.model.proofs.Tests.{clash}
use Rattle.inner.proofs.Working.{working_length}
use Rattle.model.specs.Octets.{value}
use Rattle.model.specs.Rows.{key_of, has}
use Rattle.inner.specs.Working.{working}
use Rattle.arrival.proofs.gone.Goals as goal

pub remove_at-requires : goal.remove_at-requires
remove_at-requires c =
    let a = c.args in
    let w = place_at (key_of a.table (value a.id.now)) (working [] a.count a.rows.now) c.in-Some.i (sym (c.find-found.ensures []) ∙ c.in-Some.is) in
    (omega (arith, w.within, working_length [] a.rows.now a.count (omega (arith, c.requires))), omega (arith, c.requires))

pub returns-in-Some : goal.returns-in-Some
returns-in-Some c =
    let a = c.args in
    let e = c.remove_at.ensures in
    λ t h.
    record {
      same = e.key t (key_of a.table (value a.id.now)) (sym (c.find-found.ensures t) ∙ c.in-Some.is);
      few = omega (arith, c.requires);
      tidy = λ g z. e.tidy t z;
    }

pub returns-in-None : goal.returns-in-None
returns-in-None c =
    let a = c.args in
    λ t h.
    absurd (clash (has (key_of a.table (value a.id.now)) (working t a.count a.rows.now)) h (place_none (key_of a.table (value a.id.now)) (working t a.count a.rows.now) (sym (c.find-found.ensures t) ∙ c.in-None.is)).has)
