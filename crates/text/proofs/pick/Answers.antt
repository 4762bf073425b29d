-- `text::pick` meets its contract.
use mathlib.Core.Path.{sym}
use Rattle.text.proofs.Stepping.{picked_inside, picked_last}
use Rattle.text.proofs.pick.Goals as goal

pub returns-then-from-off : goal.returns-then-from-off
returns-then-from-off c =
    let a = c.args in
    sym (picked_inside a.bytes.now a.from a.to a.at a.e a.off c.requires.to_in_bounds c.if-from-off.true)

pub returns : goal.returns
returns c =
    let a = c.args in
    sym (picked_last a.bytes.now a.from a.to a.at a.e a.off c.requires.to_in_bounds c.requires.off_bound c.if-from-off.false)
