-- `rows::find_from` meets its contract.
use mathlib.Core.Path.{sym, ◌∙◌}
use mathlib.Core.List.{[]}
use Prim.Native.Nat.{ℕ}
use native.Mathlib.Omega.{arith}
use lib.Dec.{eqb}
use lib.ListN.{get_or}
use Rattle.inner.specs.Working.{key_in}
use Rattle.rows.specs.Post.{key_of_halves}
use Rattle.rows.proofs.Search.{one_on}
use Rattle.rows.proofs.find_from.Goals as goal

pub returns-then-lies_at : goal.returns-then-lies_at
returns-then-lies_at c = (omega arith, sym c.lies_at.ensures ∙ c.if-lies_at.true)

pub loop-i-preserved : goal.loop-i-preserved
loop-i-preserved c =
    let a = c.args in
    let l = c.loop-i in
    one_on (λ (j : ℕ). eqb (key_of_halves a.table a.high a.low) (key_in (get_or a.rows.now j []))) a.from l.i l.invariant (sym c.lies_at.ensures ∙ c.if-lies_at.false)

pub returns : goal.returns
returns c = λ j h g. c.loop-i.invariant j h (omega arith)
