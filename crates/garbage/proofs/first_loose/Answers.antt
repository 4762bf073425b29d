-- `garbage::first_loose` meets its contract.
use mathlib.Core.Path.{sym, ◌∙◌}
use native.Mathlib.Omega.{arith}
use Rattle.model.specs.Catalog.{packed_tables}
use Rattle.inner.specs.Working.{working}
use Rattle.garbage.proofs.Loosely.{loose_on, loose_here_lem, loose_end, loose_found, loose_nothing}
use Rattle.garbage.proofs.first_loose.Goals as goal

pub returns-then-is_loose : goal.returns-then-is_loose
returns-then-is_loose c =
    let l = c.loop-i in
    let sc = packed_tables c.args.schema.now in
    loose_found sc c.args.n c.args.rows.now c.requires.ordered l.i c.loop-i-test.true
    (l.invariant.1 ∙ loose_here_lem sc c.args.rows.now c.args.n c.requires.ordered.there l.i c.loop-i-test.true (sym c.is_loose.ensures ∙ c.if-is_loose.true))

pub loop-i-preserved : goal.loop-i-preserved
loop-i-preserved c =
    let l = c.loop-i in
    let sc = packed_tables c.args.schema.now in
    (omega arith, l.invariant.1 ∙ loose_on sc c.args.rows.now c.args.n c.requires.ordered.there l.i c.loop-i-test.true (sym c.is_loose.ensures ∙ c.if-is_loose.false))

pub returns : goal.returns
returns c =
    let l = c.loop-i in
    let sc = packed_tables c.args.schema.now in
    loose_nothing sc (working sc c.args.n c.args.rows.now) (l.invariant.1 ∙ loose_end sc c.args.rows.now c.args.n c.requires.ordered.there l.i c.loop-i-test.false)
