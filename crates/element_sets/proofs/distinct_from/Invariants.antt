-- The loop of `element_sets::distinct_from`.
use mathlib.Core.Path.{◌≡◌}
use mathlib.Core.Bool.{true}
use Rattle.model.specs.Base.{distinct}
use Rattle.inner.specs.Positions.{left}
use Rattle.model.specs.Catalog.{base_numbered}
use Rattle.elements.specs.Elements.{elements_from, elements_fine}
use Rattle.uuids.specs.Named.{names_at}
use Rattle.element_atoms.specs.Atoms.{atoms_of}
use Rattle.element_sets.proofs.distinct_from.Given as goal

abbrev pub invariant-loop-g : goal.invariant-loop-g
invariant-loop-g l = (distinct (atoms_of (names_at l.text l.names) (base_numbered l.kind) (elements_from l.text l.set l.initial.g)) ≡ distinct (atoms_of (names_at l.text l.names) (base_numbered l.kind) (elements_from l.text l.set l.g))) × (elements_fine l.text l.set l.g ≡ true)

abbrev pub decreases-loop-g : goal.decreases-loop-g
decreases-loop-g l = left l.text l.g
