-- `text::counted` meets its contract.
use native.Mathlib.Omega.{arith}
use Rattle.text.proofs.counted.Goals as goal

pub returns-then-more : goal.returns-then-more
returns-then-more c = rw c.if-more.true (omega arith)
