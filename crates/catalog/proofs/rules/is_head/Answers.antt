-- `catalog::rules::is_head` meets its contract.
use Rattle.std.proofs.Common.{arith}
use Rattle.std.proofs.lemmas.Grind.{common_steps}
use Rattle.model.proofs.Octets.{octets}
use Rattle.catalog.specs.Judging.{head_test}
use Rattle.catalog.proofs.Heads.{head_is}
use Rattle.catalog.proofs.rules.is_head.Goals as goal

pub returns-then-entry-eq0-2 : goal.returns-then-entry-eq0-2
unfolding head_test
returns-then-entry-eq0-2 c =
    rw (← head_is c.args.entry.now c.told-entry (octets _ c.fits-entry)) (grind (arith, common_steps))

pub returns-else-entry-eq0-2 : goal.returns-else-entry-eq0-2
unfolding head_test
returns-else-entry-eq0-2 c =
    rw (← head_is c.args.entry.now c.told-entry (octets _ c.fits-entry)) (grind (arith, common_steps))
