-- `column_types::is_within` meets its contract.
use borrow.Author.Tests.{le-leb, lt-leb}
use Rattle.model.specs.SchemaText.{is_within}
use Rattle.column_types.proofs.is_within.Goals as goal

pub returns-then-m-low : goal.returns-then-m-low
unfolding is_within
returns-then-m-low c = rw (c.in-Plus.is, is_within, lt-leb _ _ c.if-m-low.true)

pub returns-else-m-low : goal.returns-else-m-low
unfolding is_within
returns-else-m-low c = rw (c.in-Plus.is, is_within, le-leb _ _ c.if-m-low.false)

pub returns-in-Minus : goal.returns-in-Minus
unfolding is_within
returns-in-Minus c = rw c.in-Minus.is

pub returns-in-Other : goal.returns-in-Other
unfolding is_within
returns-in-Other c = rw c.in-Other.is
