-- `rows::lies_at` meets its contract.
use mathlib.Core.Path.{refl, sym, ap, ◌∙◌}
use native.Mathlib.Omega.{arith}
use borrow.Author.Tests.{ne_eqb}
use lib.Dec.{eqb}
use lib.ListN.{get_or, take, drop}
use Rattle.model.specs.Octets.{value}
use Rattle.rows.specs.Post.{key_of_halves}
use Rattle.rows.proofs.Search.{row_halves, other_half, same_halves}
use Rattle.rows.proofs.lies_at.Goals as goal

pub returns-else-low-word : goal.returns-else-low-word
returns-else-low-word c =
    let a = c.args in
    let k = c.key_of-key in
    let low = c.word in
    let high = value (take 8 (drop 1 k.result.now)) in
    ne_eqb a.low low.result c.if-low-word.false
    ∙ sym (ap (eqb (key_of_halves a.table a.high a.low)) (sym (row_halves a.row.now k.result.now high low.result k.ensures refl low.ensures))
    ∙ other_half a.table a.high a.low (get_or k.result.now 0 0) high low.result (omega arith) (omega (arith, low.type_inv)) c.if-low-word.false)

pub returns-then-low-word : goal.returns-then-low-word
returns-then-low-word c =
    let a = c.args in
    let k = c.key_of-key in
    let low = c.word in
    let high = c.word-then-low-word in
    same_halves a.table a.high a.low (get_or k.result.now 0 0) high.result low.result (omega arith) (omega arith) (omega (arith, high.type_inv)) (omega (arith, low.type_inv)) (omega arith)
    ∙ ap (eqb (key_of_halves a.table a.high a.low)) (row_halves a.row.now k.result.now high.result low.result k.ensures high.ensures low.ensures)
