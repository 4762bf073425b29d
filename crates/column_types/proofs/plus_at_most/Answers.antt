-- `column_types::plus_at_most` meets its contract.
use Rattle.column_types.proofs.Signs.{plus_plus, plus_other, plus_none, plus_minus}
use Rattle.column_types.proofs.plus_at_most.Goals as goal

pub returns-then-n-eq0 : goal.returns-then-n-eq0
returns-then-n-eq0 c = rw c.in-Minus.is (plus_none _ _ c.if-n-eq0.true)

pub returns-in-Plus : goal.returns-in-Plus
returns-in-Plus c = rw c.in-Plus.is (plus_plus _ _)

pub returns-else-n-eq0 : goal.returns-else-n-eq0
returns-else-n-eq0 c = rw c.in-Minus.is (plus_minus _ _ c.if-n-eq0.false)

pub returns-in-Other : goal.returns-in-Other
returns-in-Other c = rw c.in-Other.is (plus_other _)
