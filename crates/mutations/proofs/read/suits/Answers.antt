-- `mutations::read::suits` meets its contract.
use mathlib.Core.Path.{sym, ap, ◌∙◌}
use Prim.Native.Nat.{ℕ}
use lib.Dec.{eqb}
use lib.ListN.{get_or}
use Rattle.model.specs.Catalog.{column_from}
use Rattle.mutations.proofs.Stepping.{five_suits}
use Rattle.mutations.proofs.Faulty.{base_integer}
use Rattle.mutations.proofs.read.suits.Goals as goal

pub returns-in_default : goal.returns-in_default
returns-in_default c =
    let a = c.args in
    ap (λ (k : ℕ). eqb k 0) c.kind.ensures ∙ sym (five_suits (column_from a.column.now) a.m (c.in_default.not-Insert, c.in_default.not-Delete) ∙ base_integer (get_or a.column.now 25 0))
