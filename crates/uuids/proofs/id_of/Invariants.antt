-- The loop of `uuids::id_of`.
use Rattle.uuids.proofs.Spelling.{Sofar}
use Rattle.uuids.proofs.id_of.Given as goal

abbrev pub invariant-loop-at : goal.invariant-loop-at
invariant-loop-at l = Sofar l.t l.at l.i
