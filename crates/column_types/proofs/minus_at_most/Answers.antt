-- `column_types::minus_at_most` meets its contract.
use Rattle.column_types.proofs.Signs.{minus_plus, minus_other, minus_minus}
use Rattle.column_types.proofs.minus_at_most.Goals as goal

pub returns-in-Plus : goal.returns-in-Plus
returns-in-Plus c = rw c.in-Plus.is (minus_plus _ _)

pub returns-in-Minus : goal.returns-in-Minus
returns-in-Minus c = rw c.in-Minus.is (minus_minus _ _)

pub returns-in-Other : goal.returns-in-Other
returns-in-Other c = rw c.in-Other.is (minus_other _)
