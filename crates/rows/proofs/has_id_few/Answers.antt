-- `rows::has_id_few` meets its contract.
use mathlib.Core.Path.{sym, ◌∙◌}
use native.Mathlib.Omega.{arith}
use Rattle.model.specs.Octets.{value}
use Rattle.inner.proofs.Working.{has_id_here, has_id_on, has_id_end}
use Rattle.rows.proofs.has_id_few.Goals as goal

pub returns-then-has_this_id : goal.returns-then-has_this_id
returns-then-has_this_id c =
    λ s.
    let a = c.args in
    let l = c.loop-i in
    sym (l.invariant s ∙ has_id_here s a.rows.now a.n c.requires.there (value a.id.now) l.i (omega arith) (sym c.has_this_id.ensures ∙ c.if-has_this_id.true))

pub loop-i-preserved : goal.loop-i-preserved
loop-i-preserved c =
    λ s.
    let a = c.args in
    let l = c.loop-i in
    l.invariant s ∙ has_id_on s a.rows.now a.n c.requires.there (value a.id.now) l.i (omega arith) (sym c.has_this_id.ensures ∙ c.if-has_this_id.false)

pub returns : goal.returns
returns c =
    λ s.
    let a = c.args in
    let l = c.loop-i in
    sym (l.invariant s ∙ has_id_end s a.rows.now a.n c.requires.there (value a.id.now) l.i (omega arith))
