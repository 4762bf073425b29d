-- `column_types::at_most` meets its contract.
use mathlib.Core.Path.{◌∙◌}
use Rattle.model.specs.Whole.{whole_int}
use Rattle.column_types.proofs.at_most.Goals as goal

pub returns-in-Plus : goal.returns-in-Plus
returns-in-Plus c = c.plus_at_most.ensures ∙ rw c.in-Plus.is

pub returns-in-Minus : goal.returns-in-Minus
returns-in-Minus c = c.minus_at_most.ensures ∙ rw c.in-Minus.is

pub returns-in-Other : goal.returns-in-Other
unfolding whole_int
returns-in-Other c = c.plus_at_most-in-Other.ensures ∙ rw c.in-Other.is
