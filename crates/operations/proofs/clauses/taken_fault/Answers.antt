-- `operations::clauses::taken_fault` meets its contract.
use Rattle.inner.specs.Positions.{tree_at, word_in}
use Rattle.operations.proofs.Slots.{taken_before, taken_later, taken_never}
use Rattle.operations.proofs.clauses.taken_fault.Goals as goal

pub returns-then-k-i : goal.returns-then-k-i
returns-then-k-i c =
    let a = c.args in
    taken_before a.text.now a.names.now a.i (word_in (tree_at a.text.now a.p)) c.place_of-f.ensures c.in-Some.is c.if-k-i.true

pub returns-else-k-i : goal.returns-else-k-i
returns-else-k-i c =
    let a = c.args in
    taken_later a.text.now a.names.now a.i (word_in (tree_at a.text.now a.p)) c.place_of-f.ensures c.in-Some.is c.if-k-i.false

pub returns-in-None : goal.returns-in-None
returns-in-None c =
    let a = c.args in
    taken_never a.text.now a.names.now a.i (word_in (tree_at a.text.now a.p)) c.place_of-f.ensures c.in-None.is
