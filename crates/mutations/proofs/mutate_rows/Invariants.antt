-- The loop of `mutations::mutate_rows`.
use mathlib.Core.Path.{◌≡◌}
use mathlib.Core.Bool.{true}
use mathlib.Core.List.{map}
use Rattle.inner.specs.Positions.{items_fine, left}
use Rattle.model.specs.Faults.{earlier}
use Rattle.model.specs.Catalog.{column_from}
use Rattle.mutations.specs.Mutating.{mutations_at}
use Rattle.mutations.proofs.Rowwise.{Walked}
use Rattle.mutations.proofs.mutate_rows.Given as goal

abbrev pub invariant-loop-g : goal.invariant-loop-g
invariant-loop-g l =
    (items_fine l.text l.g ≡ true) × ((mutations_at l.text l.names l.columns l.initial.g).fault ≡ earlier l.w (mutations_at l.text l.names l.columns l.g).fault)
    × Walked (map column_from l.columns) l.marks l.n l.initial.rows (mutations_at l.text l.names l.columns l.initial.g).got (mutations_at l.text l.names l.columns l.g).got l.w (record { fault = l.stop; end = l.e }) l.rows

abbrev pub decreases-loop-g : goal.decreases-loop-g
decreases-loop-g l = left l.text l.g
