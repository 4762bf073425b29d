-- `request_rows::update_rows` meets its contract.
use mathlib.Core.Path.{◌∙◌}
use mathlib.Core.Logic.{⊎_elim}
use lib.ListN.{length-set}
use Rattle.request_rows.proofs.Updates.{marking_kept, marking_changed, marking_end}
use Rattle.request_rows.proofs.update_rows.Goals as goal

pub loop-i-preserved : goal.loop-i-preserved
loop-i-preserved c =
    let a = c.args in
    let h = c.loop-i-test.true in
    let m = c.loop-i.invariant in
    ⊎_elim
    (λ w. rw w.rows-is (length-set c.loop-i.rows c.loop-i.i w.put_columns.new.to ∙ m.0, marking_changed a.k a.row.now a.given.now a.marks.now a.n a.rows.now c.loop-i.i c.loop-i.rows h m.1 w.put_columns.ensures w.if-marks-i.true))
    (λ w. rw w.rows-is (m.0, marking_kept a.k a.row.now a.given.now a.marks.now a.n a.rows.now c.loop-i.i c.loop-i.rows h m.1 w.if-marks-i.false))
    c.if-marks-i.branch-raw

pub returns : goal.returns
returns c =
    let a = c.args in
    marking_end a.k a.row.now a.given.now a.marks.now a.n a.rows.now c.loop-i.i c.loop-i.rows c.requires.n_in_bounds c.loop-i-test.false c.loop-i.invariant.1
