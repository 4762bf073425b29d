-- `marks::narrow` meets its contract.
use mathlib.Core.Logic.{⊎_elim}
use native.Mathlib.Omega.{arith}
use Rattle.marks.proofs.Marking.{narrowing_none, narrowing_set, narrowing_keep, narrowing_end}
use Rattle.marks.proofs.narrow.Goals as goal

pub loop-i-init : goal.loop-i-init
loop-i-init c = narrowing_none _ _ _

pub loop-i-preserved : goal.loop-i-preserved
loop-i-preserved c =
    ⊎_elim
    (λ w. rw w.marks-is (narrowing_set _ _ _ c.loop-i.invariant w.if-marks-i.true w.holds.ensures))
    (λ w. rw w.marks-is (narrowing_keep _ _ _ c.loop-i.invariant w.if-marks-i.false))
    c.if-marks-i.branch-raw

pub returns : goal.returns
returns c = narrowing_end _ _ _ c.loop-i.invariant (omega arith)
