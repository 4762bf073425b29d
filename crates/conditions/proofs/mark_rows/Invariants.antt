-- The loop of `conditions::mark_rows`.
use mathlib.Core.Path.{◌≡◌}
use mathlib.Core.Bool.{true}
use mathlib.Core.List.{map}
use Prim.Native.Nat.{ℕ}
use Rattle.inner.specs.Positions.{left, items_fine}
use Rattle.model.specs.Faults.{is_fine, earlier}
use Rattle.model.specs.Catalog.{column_from}
use Rattle.marks.specs.Marks.{OfTable}
use Rattle.conditions.specs.Tests.{tests_at}
use Rattle.conditions.proofs.Narrowing.{Going}
use Rattle.conditions.proofs.mark_rows.Given as goal

abbrev pub invariant-loop-g : goal.invariant-loop-g
invariant-loop-g l = ((tests_at l.text l.names l.columns l.initial.g).fault ≡ earlier l.w (tests_at l.text l.names l.columns l.g).fault) × (items_fine l.text l.g ≡ true) × (is_fine l.w ≡ true → (table : ℕ) → OfTable table l.rows l.initial.marks → Going (map column_from l.columns) table (tests_at l.text l.names l.columns l.initial.g).got (tests_at l.text l.names l.columns l.g).got l.rows l.marks)

abbrev pub decreases-loop-g : goal.decreases-loop-g
decreases-loop-g l = left l.text l.g
