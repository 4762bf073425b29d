-- `column_types::size_or` meets its contract.
use Rattle.model.specs.SchemaText.{size_or}
use Rattle.column_types.proofs.size_or.Goals as goal

pub returns-in-Plus : goal.returns-in-Plus
unfolding size_or
returns-in-Plus c = rw c.in-Plus.is

pub returns-in-Minus : goal.returns-in-Minus
unfolding size_or
returns-in-Minus c = rw c.in-Minus.is

pub returns-in-Other : goal.returns-in-Other
unfolding size_or
returns-in-Other c = rw c.in-Other.is
