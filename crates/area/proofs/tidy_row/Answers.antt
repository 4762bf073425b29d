-- `area::tidy_row` meets its contract.
use Rattle.std.proofs.Common.{arith}
use Rattle.std.proofs.lemmas.Grind.{common_steps}
use Rattle.area.specs.Layout.{tidy_from}
use Rattle.area.proofs.tidy_row.Goals as goal

pub returns-then-blank_from : goal.returns-then-blank_from
unfolding tidy_from
returns-then-blank_from c = grind (arith, common_steps, c.blank_from.ensures.value)

pub returns-else-blank_from : goal.returns-else-blank_from
unfolding tidy_from
returns-else-blank_from c = grind (arith, common_steps, c.blank_from.ensures.value)
