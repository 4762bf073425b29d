-- `selection::same_columns` meets its contract.
use mathlib.Core.Path.{◌≡◌, sym, ap, ◌∙◌}
use mathlib.Core.Bool.{Bool, not, ◌&&◌}
use Prim.Native.Nat.{◌+◌, ◌-◌}
use native.Mathlib.Omega.{arith}
use Rattle.selection.specs.Picks.{same_from}
use Rattle.selection.proofs.Picks.{columns_step, columns_end}
use Rattle.selection.proofs.same_columns.Goals as goal

pub loop-c-init : goal.loop-c-init
loop-c-init c =
    let a = c.args in
    let e : a.k ≡ a.k - 0 = omega arith in
    (omega arith, ap (same_from a.flags.now a.x.now a.y.now 0) e)

pub returns-then-differ : goal.returns-then-differ
returns-then-differ c =
    let a = c.args in
    sym (c.loop-c.invariant.1 ∙ columns_step a.flags.now a.x.now a.y.now c.loop-c.c a.k c.loop-c-test.true c.differ.ensures
    ∙ ap (λ (b : Bool). not b && same_from a.flags.now a.x.now a.y.now (c.loop-c.c + 1) (a.k - (c.loop-c.c + 1))) c.if-differ.true)

pub loop-c-preserved : goal.loop-c-preserved
loop-c-preserved c =
    let a = c.args in (
      omega arith,
      c.loop-c.invariant.1 ∙ columns_step a.flags.now a.x.now a.y.now c.loop-c.c a.k c.loop-c-test.true c.differ.ensures
          ∙ ap (λ (b : Bool). not b && same_from a.flags.now a.x.now a.y.now (c.loop-c.c + 1) (a.k - (c.loop-c.c + 1))) c.if-differ.false,
    )

pub returns : goal.returns
returns c =
    let a = c.args in
    sym (c.loop-c.invariant.1 ∙ columns_end a.flags.now a.x.now a.y.now c.loop-c.c a.k c.loop-c-test.false)
