-- The loop of `tables::read_each`.
use Rattle.tables.proofs.Each.{Sofar}
use Rattle.tables.proofs.read_each.Given as goal

abbrev pub invariant-loop-i : goal.invariant-loop-i
invariant-loop-i l = Sofar l.text l.places l.heads l.initial.cells l.cells l.i
