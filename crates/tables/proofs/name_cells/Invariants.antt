-- The loop of `tables::name_cells`.
use Rattle.tables.proofs.All.{Naming}
use Rattle.tables.proofs.name_cells.Given as goal

abbrev pub invariant-loop-i : goal.invariant-loop-i
invariant-loop-i l = Naming l.text l.places l.n l.cells l.i
