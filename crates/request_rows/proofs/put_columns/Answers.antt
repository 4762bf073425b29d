-- `request_rows::put_columns` meets its contract.
use mathlib.Core.Path.{refl}
use mathlib.Core.Logic.{⊎_elim}
use native.Mathlib.Omega.{arith}
use Rattle.request_rows.proofs.Rows.{assigning_on, assigning_end}
use Rattle.request_rows.proofs.Reading.{put_flagged, put_unflagged}
use Rattle.request_rows.proofs.put_columns.Goals as goal

pub loop-c-preserved : goal.loop-c-preserved
loop-c-preserved c =
    let a = c.args in
    let h = c.loop-c-test.true in
    λ os e t. assigning_on os a.to.now c.loop-c.c (omega (arith, h, e)) (omega (arith, e, c.requires)) refl
    (⊎_elim
    (λ w. rw w.to-is (put_flagged os c.loop-c.c (omega (arith, h, e)) a.row.now c.loop-c.to a.given.now t w.if-given-c.true w.count_of-n.ensures w.atoms_of.ensures w.set_column.ensures))
    (λ w. rw w.to-is (put_unflagged os c.loop-c.c (omega (arith, h, e)) a.row.now c.loop-c.to a.given.now t w.if-given-c.false))
    c.if-given-c.branch-raw)
    (c.loop-c.invariant os e t)

pub returns : goal.returns
returns c =
    let a = c.args in
    λ os e t. assigning_end os a.to.now c.loop-c.c c.loop-c.to (omega (arith, e, c.loop-c-test.false)) (c.loop-c.invariant os e t)
