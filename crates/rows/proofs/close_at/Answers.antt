-- `rows::close_at` meets its contract.
use mathlib.Core.Path.{ap, ◌∙◌}
use Prim.Native.Nat.{◌-◌}
use native.Mathlib.Omega.{arith}
use lib.ListN.{take}
use Rattle.rows.proofs.Laws.{closed_within, closed_end}
use Rattle.rows.proofs.close_at.Goals as goal

pub returns : goal.returns
returns c =
    let a = c.args in
    ap (take (a.n - 1)) (c.copy_within.ensures.after ∙ closed_within a.rows.now a.i a.n (a.n - 1) (omega arith) (omega arith))
    ∙ closed_end a.rows.now a.i a.n (a.n - 1) (omega arith) (omega arith) (omega arith)
