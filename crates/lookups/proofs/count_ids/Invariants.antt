-- The loop of `lookups::count_ids`.
use Rattle.std.proofs.Common.{◌≡◌, ◌≤◌, List, ℕ, length, take}
use Rattle.std.specs.Prelude.{count_by}
use Rattle.model.specs.Octets.{value}
use Rattle.model.specs.Schema.{Schema}
use Rattle.model.specs.Rows.{has_id}
use Rattle.inner.specs.Working.{working}
use Rattle.lookups.proofs.count_ids.Given as goal

abbrev pub invariant-loop-id : goal.invariant-loop-id
invariant-loop-id l = (l.count ≤ l.id-index) × ((s : Schema) → l.count ≡ count_by (λ (k : List ℕ). has_id (value k) (working s (length l.rows) l.rows)) (take l.id-index l.ids))
