-- `arrival::set` meets its contract.
use mathlib.Core.List.{[]}
use mathlib.Core.Path.{sym, ◌∙◌}
use native.Mathlib.Omega.{arith}
use Rattle.inner.proofs.Places.{place_at, place_none}
use Rattle.inner.proofs.Working.{working_length}
use Rattle.model.specs.Octets.{value}
use Rattle.model.specs.Rows.{key_of}
use Rattle.model.specs.Value.{Value}
use Rattle.inner.specs.Working.{working}
use Rattle.arrival.proofs.Changes.{set_left}
use Rattle.arrival.proofs.set.Goals as goal

pub offset_bounds-rows-i : goal.offset_bounds-rows-i
offset_bounds-rows-i c =
    let a = c.args in
    let w = place_at (key_of a.table (value a.id.now)) (working [] a.count a.rows.now) c.in-Some.i (sym (c.find-found.ensures []) ∙ c.in-Some.is) in
    omega (arith, w.within, working_length [] a.rows.now a.count (omega (arith, c.requires.ready)), c.requires.ready)

pub bounds-rows-i : goal.bounds-rows-i
bounds-rows-i c =
    let a = c.args in
    let w = place_at (key_of a.table (value a.id.now)) (working [] a.count a.rows.now) c.in-Some.i (sym (c.find-found.ensures []) ∙ c.in-Some.is) in
    omega (arith, w.within, working_length [] a.rows.now a.count (omega (arith, c.requires.ready)), c.requires.ready)

pub returns-in-Some : goal.returns-in-Some
returns-in-Some c =
    let a = c.args in
    let i = c.in-Some.i in
    λ t.
    set_left t a.table (value a.id.now) a.c (record { count = a.elements; atoms = a.atoms.now }) a.count a.rows.now (omega (arith, c.requires.ready)) i
    (place_at (key_of a.table (value a.id.now)) (working t a.count a.rows.now) i (sym (c.find-found.ensures t) ∙ c.in-Some.is))
    c.set_column.new.row c.set_column.ensures c.requires.ready.few

pub returns-in-None : goal.returns-in-None
returns-in-None c =
    let a = c.args in
    let v : Value = record { count = a.elements; atoms = a.atoms.now } in
    λ t h g f.
    record {
      same = sym ((place_none (key_of a.table (value a.id.now)) (working t a.count a.rows.now) (sym (c.find-found.ensures t) ∙ c.in-None.is)).change a.c v);
      few = c.requires.ready.few;
      tidy = λ o z. z;
    }
