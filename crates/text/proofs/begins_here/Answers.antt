-- `text::begins_here` meets its contract.
use borrow.Author.Tests.{lt-ltb, le-ltb}
use Rattle.model.specs.Text.{begins}
use Rattle.text.proofs.begins_here.Goals as goal

pub returns-then-b-lt128 : goal.returns-then-b-lt128
unfolding begins
returns-then-b-lt128 c = rw (begins, lt-ltb _ _ c.if-b-lt128.true)

pub returns-then-b-lt192 : goal.returns-then-b-lt192
unfolding begins
returns-then-b-lt192 c = rw (begins, le-ltb _ _ c.if-b-lt128.false, lt-ltb _ _ c.if-b-lt192.true)

pub returns : goal.returns
unfolding begins
returns c = rw (begins, le-ltb _ _ c.if-b-lt128.false, le-ltb _ _ c.if-b-lt192.false)
