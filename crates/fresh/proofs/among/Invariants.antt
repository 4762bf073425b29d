-- The loop of `fresh::among`.
use mathlib.Core.Path.{◌≡◌}
use lib.Dec.{eqb}
use Rattle.model.specs.Octets.{value}
use Rattle.model.specs.Base.{any}
use Rattle.fresh.specs.Fresh.{fresh_from}
use Rattle.fresh.proofs.among.Given as goal

abbrev pub invariant-loop-i : goal.invariant-loop-i
invariant-loop-i l = any (eqb (value l.id)) (fresh_from l.k l.fresh) ≡ any (eqb (value l.id)) (fresh_from l.i l.fresh)
