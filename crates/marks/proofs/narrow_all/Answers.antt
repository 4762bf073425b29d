-- `marks::narrow_all` meets its contract.
use mathlib.Core.Path.{sym, ap, ◌∙◌}
use mathlib.Core.Bool.{◌&&◌}
use mathlib.Core.List.{[]}
use mathlib.Core.Logic.{⊎_elim}
use native.Mathlib.Omega.{arith}
use lib.ListN.{get_or}
use Rattle.marks.proofs.Atoms.{and_true}
use Rattle.marks.proofs.Marking.{narrowing_none, narrowing_set, narrowing_keep, narrowing_end}
use Rattle.marks.proofs.narrow_all.Goals as goal

pub loop-i-init : goal.loop-i-init
loop-i-init c = λ p h. narrowing_none p _ _

pub loop-i-preserved : goal.loop-i-preserved
loop-i-preserved c =
    let a = c.args in
    ⊎_elim
    (λ w. λ p h. rw w.marks-is (narrowing_set p _ _ (c.loop-i.invariant p h) w.if-marks-i.true (ap (λ b. a.stays && b) w.sized_at.ensures.0 ∙ and_true a.stays ∙ sym (h (get_or a.rows.now c.loop-i.i []) w.sized_at.ensures.1))))
    (λ w. λ p h. rw w.marks-is (narrowing_keep p _ _ (c.loop-i.invariant p h) w.if-marks-i.false))
    c.if-marks-i.branch-raw

pub returns : goal.returns
returns c = λ p h. narrowing_end p _ _ (c.loop-i.invariant p h) (omega arith)
