-- `rows::insert_at` meets its contract.
use mathlib.Core.Path.{ap, ◌∙◌}
use mathlib.Core.List.{[]}
use Prim.Native.Nat.{◌+◌}
use native.Mathlib.Omega.{arith}
use lib.ListN.{set, take}
use Rattle.rows.proofs.Laws.{moved_within, moved_end}
use Rattle.rows.proofs.insert_at.Goals as goal

pub returns : goal.returns
returns c =
    let a = c.args in
    ap (λ q. take (a.n + 1) (set q a.i a.row.now)) (c.copy_within.ensures.after ∙ moved_within a.rows.now [] a.n a.i (omega arith))
    ∙ moved_end a.rows.now [] a.n a.i a.row.now (omega arith) (omega arith)
