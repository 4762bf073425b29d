-- `rows::has_key` meets its contract.
use mathlib.Core.Path.{sym, ◌∙◌}
use Rattle.model.specs.Octets.{value}
use Rattle.model.specs.Rows.{key_of}
use Rattle.inner.specs.Working.{working}
use Rattle.inner.proofs.Places.{place_at, place_none}
use Rattle.rows.proofs.has_key.Goals as goal

pub returns-in-Some : goal.returns-in-Some
returns-in-Some c =
    λ s.
    let a = c.args in
    sym (place_at (key_of a.table (value a.id.now)) (working s a.n a.rows.now) c.in-Some.field-0 (sym (c.find_key-found.ensures s) ∙ c.in-Some.is)).has

pub returns-in-None : goal.returns-in-None
returns-in-None c =
    λ s.
    let a = c.args in
    sym (place_none (key_of a.table (value a.id.now)) (working s a.n a.rows.now) (sym (c.find_key-found.ensures s) ∙ c.in-None.is)).has
