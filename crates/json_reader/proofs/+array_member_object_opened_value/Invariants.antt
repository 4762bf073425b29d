-- The loops and measures of `json_reader::value` and what it calls.
use Prim.Native.Nat.{◌+◌, ◌-◌, ◌*◌, ◌≤◌}
use mathlib.Core.Path.{◌≡◌}
use lib.ListN.{length}
use Rattle.model.specs.Scan.{run}
use Rattle.model.specs.Json.{item_turn, array_at, member_at, object_at, value_at}
use Rattle.inner.specs.Positions.{Says}
use Rattle.json_reader.proofs.+array_member_object_opened_value.Given as goal

abbrev pub decreases-array : goal.decreases-array
decreases-array l = 4 * l.levels + 3

abbrev pub decreases-member : goal.decreases-member
decreases-member l = 4 * l.levels + 2

abbrev pub decreases-object : goal.decreases-object
decreases-object l = 4 * l.levels + 3

abbrev pub decreases-opened : goal.decreases-opened
decreases-opened l = 4 * l.levels

abbrev pub decreases-value : goal.decreases-value
decreases-value l = 4 * l.levels + 1

abbrev pub invariant-array-loop-k : goal.invariant-array-loop-k
invariant-array-loop-k l =
    (l.k ≤ l.k-end) × ((array_at (value_at l.levels l.text) l.text l.at).read ≡ (run (item_turn (value_at l.levels l.text) l.text 93) (l.k-end - l.k) l.i).read) × Says l.text l.ends × (length l.ends ≡ length l.initial.ends)

abbrev pub decreases-array-loop-k : goal.decreases-array-loop-k
decreases-array-loop-k l = l.k-end - l.k

abbrev pub invariant-object-loop-k : goal.invariant-object-loop-k
invariant-object-loop-k l =
    (l.k ≤ l.k-end) × ((object_at (value_at l.levels l.text) l.text l.at).read ≡ (run (item_turn (member_at (value_at l.levels l.text) l.text) l.text 125) (l.k-end - l.k) l.i).read) × Says l.text l.ends × (length l.ends ≡ length l.initial.ends)

abbrev pub decreases-object-loop-k : goal.decreases-object-loop-k
decreases-object-loop-k l = l.k-end - l.k
