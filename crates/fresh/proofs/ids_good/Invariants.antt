-- The loop of `fresh::ids_good`.
use mathlib.Core.Path.{◌≡◌}
use Rattle.model.specs.Schema.{Schema}
use Rattle.inner.specs.Working.{working}
use Rattle.fresh.specs.Fresh.{fresh_good}
use Rattle.fresh.proofs.Ids.{good_from}
use Rattle.fresh.proofs.ids_good.Given as goal

abbrev pub invariant-loop-k : goal.invariant-loop-k
invariant-loop-k l = (s : Schema) → fresh_good l.fresh (working s l.n l.rows) ≡ good_from l.fresh (working s l.n l.rows) l.k
