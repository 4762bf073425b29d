-- `catalog::named` meets its contract.
use Rattle.std.proofs.Common.{arith}
use Rattle.std.proofs.lemmas.Grind.{common_steps}
use Rattle.catalog.proofs.Lookups.{named_start, named_end, named_here, named_next}
use Rattle.catalog.proofs.named.Goals as goal

pub loop-i-init : goal.loop-i-init
loop-i-init c = named_start c.args.entries.now c.args.name.now

pub returns-then-equal : goal.returns-then-equal
returns-then-equal c = grind (arith, common_steps, named_here c.args.entries.now c.args.name.now c.loop-i.i)

pub loop-i-preserved : goal.loop-i-preserved
loop-i-preserved c = grind (arith, common_steps, named_next c.args.entries.now c.args.name.now c.loop-i.i)

pub returns : goal.returns
returns c = grind (arith, common_steps, named_end c.args.entries.now c.args.name.now)
