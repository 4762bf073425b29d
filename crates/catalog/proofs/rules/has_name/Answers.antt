-- `catalog::rules::has_name` meets its contract.
use Rattle.std.proofs.Common.{arith}
use Rattle.std.proofs.lemmas.Grind.{common_steps}
use Rattle.catalog.proofs.Names.{name_long, name_code}
use Rattle.catalog.proofs.rules.has_name.Goals as goal

pub returns-then-is_id : goal.returns-then-is_id
returns-then-is_id c =
    grind (arith, common_steps, name_code _ c.told-entry _ c.wide-n.ensures)

pub returns-else-is_id : goal.returns-else-is_id
returns-else-is_id c =
    grind (arith, common_steps, name_long _ c.told-entry, name_code _ c.told-entry _ c.wide-n.ensures)
