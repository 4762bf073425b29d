-- The loop of `element_sets::tally_from`.
use Prim.Native.Nat.{◌+◌, ◌≤◌}
use mathlib.Core.Path.{◌≡◌}
use mathlib.Core.Bool.{true}
use Rattle.inner.specs.Positions.{left}
use Rattle.model.specs.Catalog.{column_from}
use Rattle.elements.specs.Elements.{elements_from, elements_fine}
use Rattle.uuids.specs.Named.{names_at}
use Rattle.element_sets.proofs.Tallying.{Counted}
use Rattle.element_sets.proofs.Gathering.{Kept}
use Rattle.element_sets.proofs.tally_from.Given as goal

abbrev pub invariant-loop-g : goal.invariant-loop-g
invariant-loop-g l =
    (Counted (names_at l.text l.names) (column_from l.column) (elements_from l.text l.set l.initial.g) (elements_from l.text l.set l.g) l.count l.typed l.short l.within)
    × (elements_fine l.text l.set l.g ≡ true) × (l.count + left l.text l.g ≤ left l.text l.initial.g) × Kept (names_at l.text l.names) (column_from l.column).base l.text l.set l.initial.g l.g l.atoms l.count

abbrev pub decreases-loop-g : goal.decreases-loop-g
decreases-loop-g l = left l.text l.g
