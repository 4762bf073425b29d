-- `selection::put_picked` meets its contract.
use native.Mathlib.Omega.{arith}
use Rattle.json_writer.proofs.Putting.{put_nothing, put_then, put_is}
use Rattle.projection.proofs.Columns.{shown_yes, shown_no}
use Rattle.selection.proofs.put_picked.Goals as goal

pub returns : goal.returns
returns c =
    let a = c.args in
    put_is (put_then c.put_comma-r.ensures c.put_row.ensures) (shown_yes a.pick a.first _ c.if-not-pick.false) (omega arith)

pub returns-then-not-pick : goal.returns-then-not-pick
returns-then-not-pick c =
    let a = c.args in
    put_is (put_nothing a.out.now a.at) (shown_no a.pick a.first _ c.if-not-pick.true) (omega arith)
