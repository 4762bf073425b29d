-- `garbage::counts::keep_marked` meets its contract.
use mathlib.Core.Path.{◌∙◌}
use native.Mathlib.Omega.{arith}
use Rattle.garbage.proofs.Marking.{put_on}
use Rattle.garbage.proofs.counts.keep_marked.Goals as goal

pub loop-j-preserved : goal.loop-j-preserved
loop-j-preserved c =
    let l = c.loop-j in
    let t = c.loop-j-test.true in
    let p = put_on l.m l.j c.args.n c.put_down-m.result c.args.marks.now l.rows c.put_down-m.new.rows l.invariant.0 t (omega (arith, l.invariant.2, c.requires.0)) c.requires.1 c.put_down-m.ensures in
    (p.few, omega arith, p.long ∙ l.invariant.2, p.rows ∙ l.invariant.3)
