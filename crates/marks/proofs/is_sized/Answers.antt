-- `marks::is_sized` meets its contract.
use mathlib.Core.Path.{◌∙◌}
use mathlib.Core.List.{List, []}
use Prim.Native.Nat.{ℕ}
use native.Mathlib.Omega.{arith}
use lib.Dec.{eqb}
use lib.ListN.{length, get_or}
use borrow.Author.Tests.{eq-eqb}
use Rattle.marks.proofs.Atoms.{all_on, all_end}
use Rattle.marks.proofs.is_sized.Goals as goal

pub loop-x-preserved : goal.loop-x-preserved
loop-x-preserved c =
    let xs = c.args.xs.now in
    let i = c.loop-x.x-index in
    let e = eq-eqb (length (get_or xs i [])) 25 (omega (arith, c.bytes-1.given)) in
    (rw (c.loop-x.invariant.0, e), c.loop-x.invariant.1 ∙ all_on (λ (x : List ℕ). eqb (length x) 25) xs i (omega arith) e)

pub returns : goal.returns
returns c = (c.loop-x.invariant.0, c.loop-x.invariant.1 ∙ all_end (λ (x : List ℕ). eqb (length x) 25) c.args.xs.now c.loop-x.x-index (omega arith))
