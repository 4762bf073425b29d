-- `area::again` meets its contract.
use mathlib.Core.Path.{refl, sym, ◌∙◌}
use native.Mathlib.Omega.{arith}
use Rattle.inner.specs.Working.{id_in}
use Rattle.inner.proofs.Working.{has_id_here, has_id_on, has_id_end}
use Rattle.area.proofs.again.Goals as goal

pub loop-i-init : goal.loop-i-init
loop-i-init c = λ s. refl

pub returns-then-same_id : goal.returns-then-same_id
returns-then-same_id c =
    λ s.
    let a = c.args in
    let l = c.loop-i in
    let h = c.requires.0 in
    sym (l.invariant s ∙ has_id_here s a.rows.now a.n h (id_in a.row.now) l.i (omega arith) (sym c.same_id.ensures ∙ c.if-same_id.true))

pub loop-i-preserved : goal.loop-i-preserved
loop-i-preserved c =
    let a = c.args in
    let l = c.loop-i in
    let h = c.requires.0 in
    (λ s. l.invariant s ∙ has_id_on s a.rows.now a.n h (id_in a.row.now) l.i (omega arith) (sym c.same_id.ensures ∙ c.if-same_id.false))

pub returns : goal.returns
returns c =
    λ s.
    let a = c.args in
    let l = c.loop-i in
    sym (l.invariant s ∙ has_id_end s a.rows.now a.n c.requires.0 (id_in a.row.now) l.i (omega arith))
