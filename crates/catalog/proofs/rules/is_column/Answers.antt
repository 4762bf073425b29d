-- `catalog::rules::is_column` meets its contract.
use Rattle.std.proofs.Common.{arith}
use Rattle.std.proofs.lemmas.Grind.{common_steps}
use Rattle.model.proofs.Octets.{octets}
use Rattle.catalog.specs.Judging.{column_test}
use Rattle.catalog.proofs.Columns.{column_is}
use Rattle.catalog.proofs.rules.is_column.Goals as goal

pub returns-then-entry-le1 : goal.returns-then-entry-le1
unfolding column_test
returns-then-entry-le1 c =
    rw (← column_is c.args.entry.now c.told-entry (octets _ c.fits-entry) c.args.n) (grind (arith, common_steps))

pub returns-else-entry-le1 : goal.returns-else-entry-le1
unfolding column_test
returns-else-entry-le1 c =
    rw (← column_is c.args.entry.now c.told-entry (octets _ c.fits-entry) c.args.n) (grind (arith, common_steps))
