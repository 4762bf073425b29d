-- `rows::find_by_fours` meets its contract.
use native.Mathlib.Omega.{arith}
use Rattle.rows.specs.Post.{key_of_halves}
use Rattle.rows.proofs.Search.{four_on, sought_on}
use Rattle.rows.proofs.find_by_fours.Goals as goal

pub loop-i-init : goal.loop-i-init
loop-i-init c = (omega arith, omega arith, λ j h g. absurd (omega arith))

pub overflow_add-i : goal.overflow_add-i
overflow_add-i c = omega (arith, c.well_formed)

pub returns-then-k-lt4 : goal.returns-then-k-lt4
returns-then-k-lt4 c = (omega arith, c.of_four-k.ensures.here c.if-k-lt4.true)

pub loop-i-preserved : goal.loop-i-preserved
loop-i-preserved c =
    let a = c.args in
    let l = c.loop-i in
    (omega arith, omega arith, four_on (key_of_halves a.table a.high a.low) a.rows.now a.from l.i l.invariant.2 c.of_four-k.result c.of_four-k.ensures c.if-k-lt4.false)

pub find_from-requires : goal.find_from-requires
find_from-requires c = c.requires.1

pub returns : goal.returns
returns c =
    let a = c.args in
    let l = c.loop-i in
    sought_on (key_of_halves a.table a.high a.low) a.rows.now a.from l.i l.invariant.2 a.to c.find_from.result c.find_from.ensures
