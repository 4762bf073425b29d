-- `rows::find_few` meets its contract.
use mathlib.Core.Path.{sym, ◌∙◌}
use native.Mathlib.Omega.{arith}
use Rattle.model.specs.Octets.{value}
use Rattle.model.specs.Rows.{key_of}
use Rattle.inner.specs.Working.{place}
use Rattle.inner.proofs.Working.{place_here, place_on, place_end}
use Rattle.rows.proofs.find_few.Goals as goal

pub returns-then-is_row : goal.returns-then-is_row
unfolding place
returns-then-is_row c =
    λ s.
    let a = c.args in
    let l = c.loop-i in
    sym (l.invariant s ∙ place_here s a.rows.now a.n c.requires.0.there (key_of a.table (value a.id.now)) l.i (omega arith) (sym c.is_row.ensures ∙ c.if-is_row.true))

pub loop-i-preserved : goal.loop-i-preserved
loop-i-preserved c =
    λ s.
    let a = c.args in
    let l = c.loop-i in
    l.invariant s ∙ place_on s a.rows.now a.n c.requires.0.there (key_of a.table (value a.id.now)) l.i (omega arith) (sym c.is_row.ensures ∙ c.if-is_row.false)

pub returns : goal.returns
unfolding place
returns c =
    λ s.
    let a = c.args in
    let l = c.loop-i in
    sym (l.invariant s ∙ place_end s a.rows.now a.n c.requires.0.there (key_of a.table (value a.id.now)) l.i (omega arith))
