-- `area::distinct` meets its contract.
use mathlib.Core.Path.{refl, sym, ◌∙◌}
use native.Mathlib.Omega.{arith}
use Rattle.area.proofs.Walks.{distinct_on, distinct_off, distinct_end}
use Rattle.area.proofs.distinct.Goals as goal

pub loop-i-init : goal.loop-i-init
loop-i-init c = λ s. refl

pub returns-then-again : goal.returns-then-again
returns-then-again c =
    λ s.
    let a = c.args in
    let l = c.loop-i in
    let h = c.requires in
    sym (l.invariant s ∙ distinct_off s a.rows.now a.n h l.i (omega arith) (sym (c.again.ensures s) ∙ c.if-again.true))

pub loop-i-preserved : goal.loop-i-preserved
loop-i-preserved c =
    let a = c.args in
    let l = c.loop-i in
    let h = c.requires in
    (λ s. l.invariant s ∙ distinct_on s a.rows.now a.n h l.i (omega arith) (sym (c.again.ensures s) ∙ c.if-again.false))

pub returns : goal.returns
returns c =
    λ s.
    let a = c.args in
    let l = c.loop-i in
    sym (l.invariant s ∙ distinct_end s a.rows.now a.n c.requires l.i (omega arith))
