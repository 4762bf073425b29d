-- The loop of `lookups::count_keys`.
use Rattle.std.proofs.Common.{◌≡◌, ◌≤◌, List, ℕ, length, take}
use Rattle.std.specs.Prelude.{count_by}
use Rattle.model.specs.Octets.{value}
use Rattle.model.specs.Schema.{Schema}
use Rattle.model.specs.Rows.{has}
use Rattle.inner.specs.Working.{working}
use Rattle.lookups.proofs.count_keys.Given as goal

abbrev pub invariant-loop-key : goal.invariant-loop-key
invariant-loop-key l = (l.count ≤ l.key-index) × ((s : Schema) → l.count ≡ count_by (λ (k : List ℕ). has (value k) (working s (length l.rows) l.rows)) (take l.key-index l.keys))
