-- `lookups::has_key` meets its contract.
use mathlib.Core.Path.{ap, ◌∙◌}
use Prim.Native.Nat.{ℕ}
use native.Mathlib.Omega.{arith}
use lib.ListN.{length}
use Rattle.model.specs.Rows.{has}
use Rattle.inner.specs.Working.{working}
use Rattle.lookups.proofs.Laws.{key_is}
use Rattle.lookups.proofs.has_key.Goals as goal

pub returns : goal.returns
returns c =
    λ s.
    let a = c.args in
    c.has_key.ensures s ∙ ap (λ (k : ℕ). has k (working s (length a.rows.now) a.rows.now)) (key_is a.key.now (omega arith))
