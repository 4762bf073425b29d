-- `rows::up_to` meets its contract.
use mathlib.Core.Path.{ap, ◌∙◌}
use mathlib.Core.Bool.{not}
use Prim.Native.Nat.{ℕ}
use native.Mathlib.Omega.{arith}
use lib.Dec.{ltb}
use lib.ListN.{get_or}
use Rattle.rows.specs.Post.{key_of_halves}
use Rattle.rows.proofs.Search.{row_halves, up_to}
use Rattle.rows.proofs.up_to.Goals as goal

pub returns : goal.returns
returns c =
    let a = c.args in
    let k = c.key_of-key in
    let high = c.word-h in
    let low = c.word-l in
    up_to a.table a.high a.low (get_or k.result.now 0 0) high.result low.result (omega arith) (omega arith) (omega (arith, high.type_inv)) (omega (arith, low.type_inv))
    ∙ ap (λ (n : ℕ). not (ltb (key_of_halves a.table a.high a.low) n)) (row_halves a.row.now k.result.now high.result low.result k.ensures high.ensures low.ensures)
