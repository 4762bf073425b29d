-- The loop of `rows::same_bytes`.
use mathlib.Core.Path.{◌≡◌}
use mathlib.Core.Bool.{◌&&◌}
use lib.ListN.{drop}
use Rattle.model.specs.Octets.{eq_bytes}
use Rattle.rows.proofs.same_bytes.Given as goal

abbrev pub invariant-loop-k : goal.invariant-loop-k
invariant-loop-k l = eq_bytes l.x l.y ≡ (l.same && eq_bytes (drop l.k l.x) (drop l.k l.y))
