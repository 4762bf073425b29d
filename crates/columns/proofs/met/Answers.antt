-- `columns::met` meets its contract.
use mathlib.Core.Path.{sym, ◌∙◌}
use native.Mathlib.Omega.{arith}
use Rattle.columns.proofs.Kept.{met_end, met_here, met_next}
use Rattle.columns.proofs.met.Goals as goal

pub returns-then-same : goal.returns-then-same
returns-then-same c =
    let h = met_here c.args.name.now c.args.names.now c.args.n c.requires c.loop-i.i c.loop-i-test.true (sym c.same.ensures ∙ c.if-same.true) in
    let q = c.loop-i.invariant in
    omega arith

pub loop-i-preserved : goal.loop-i-preserved
loop-i-preserved c =
    let h = met_next c.args.name.now c.args.names.now c.args.n c.requires c.loop-i.i c.loop-i-test.true (sym c.same.ensures ∙ c.if-same.false) in
    let q = c.loop-i.invariant in
    omega arith

pub returns : goal.returns
returns c =
    let h = met_end c.args.name.now c.args.names.now c.args.n c.requires c.loop-i.i c.loop-i-test.false in
    let q = c.loop-i.invariant in
    omega arith
