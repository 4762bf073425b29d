-- The loop of `element_atoms::cell_among`.
use mathlib.Core.Path.{◌≡◌}
use mathlib.Core.Bool.{true}
use Rattle.inner.specs.Positions.{left}
use Rattle.model.specs.Octets.{eq_bytes}
use Rattle.model.specs.Base.{any}
use Rattle.model.specs.Catalog.{base_numbered}
use Rattle.elements.specs.Elements.{elements_from, elements_fine}
use Rattle.uuids.specs.Named.{names_at}
use Rattle.element_atoms.specs.Atoms.{atom_as}
use Rattle.element_atoms.proofs.cell_among.Given as goal

abbrev pub invariant-loop-g : goal.invariant-loop-g
invariant-loop-g l = (any (λ j. eq_bytes l.x (atom_as (names_at l.text l.names) (base_numbered l.kind) j)) (elements_from l.text l.set l.initial.g) ≡ any (λ j. eq_bytes l.x (atom_as (names_at l.text l.names) (base_numbered l.kind) j)) (elements_from l.text l.set l.g)) × (elements_fine l.text l.set l.g ≡ true)

abbrev pub decreases-loop-g : goal.decreases-loop-g
decreases-loop-g l = left l.text l.g
