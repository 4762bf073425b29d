-- The loop of `mutations::mutate_marked`.
use mathlib.Core.List.{map}
use Rattle.model.specs.Catalog.{column_from}
use Rattle.mutations.specs.Mutating.{mutation_from}
use Rattle.mutations.specs.Rows.{SteppedTo}
use Rattle.mutations.proofs.mutate_marked.Given as goal

abbrev pub invariant-loop-i : goal.invariant-loop-i
invariant-loop-i l = SteppedTo (map column_from l.columns) (mutation_from l.text l.names l.columns l.m l.atoms) l.marks l.i l.initial.rows l.rows
