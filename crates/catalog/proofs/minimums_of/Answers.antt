-- `catalog::minimums_of` meets its contract.
use Rattle.std.proofs.Common.{arith}
use Rattle.catalog.proofs.Minimums.{mins_more, mins_end}
use Rattle.catalog.proofs.minimums_of.Goals as goal

pub loop-c-preserved : goal.loop-c-preserved
loop-c-preserved c = mins_more c.args.columns.now c.requires c.loop-c.c c.loop-c.invariant (omega arith)

pub returns : goal.returns
returns c = mins_end c.args.columns.now c.requires c.loop-c.c c.loop-c.invariant (omega arith)
