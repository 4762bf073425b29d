-- The loop of `garbage::counts::next_to_go`.
use mathlib.Core.Path.{◌≡◌}
use mathlib.Core.Bool.{false}
use mathlib.Core.List.{[]}
use Prim.Native.Nat.{ℕ, ◌≤◌, ◌<◌}
use lib.ListN.{get_or}
use Rattle.model.specs.Catalog.{packed_tables}
use Rattle.garbage.specs.Counts.{may_go}
use Rattle.garbage.proofs.counts.next_to_go.Given as goal

abbrev pub invariant-loop-i : goal.invariant-loop-i
invariant-loop-i l = (l.i ≤ l.n) × ((k : ℕ) → k < l.i → may_go (packed_tables l.schema) (get_or l.rows k []) (get_or l.marks k 0) (get_or l.counts k 0) ≡ false)
