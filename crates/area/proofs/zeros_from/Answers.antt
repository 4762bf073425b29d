-- `area::zeros_from` meets its contract.
use mathlib.Core.Path.{sym, ◌∙◌}
use Prim.Native.Nat.{ℕ}
use native.Mathlib.Omega.{arith}
use lib.Dec.{eqb}
use Rattle.area.proofs.Walks.{so_far_on, so_far_end}
use Rattle.area.proofs.zeros_from.Goals as goal

pub loop-i-preserved : goal.loop-i-preserved
loop-i-preserved c =
    let l = c.loop-i in
    l.invariant ∙ so_far_on (λ (b : ℕ). eqb b 0) 0 c.args.area.now l.i l.ok (omega arith)

pub returns : goal.returns
returns c =
    let l = c.loop-i in
    sym (l.invariant ∙ so_far_end (λ (b : ℕ). eqb b 0) 0 c.args.area.now l.i l.ok (omega arith))
