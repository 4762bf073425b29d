-- `fresh::ids_good` meets its contract.
use mathlib.Core.Path.{sym, ◌∙◌}
use native.Mathlib.Omega.{arith}
use Rattle.inner.specs.Working.{working}
use Rattle.fresh.proofs.Ids.{good_first, good_on, good_not, good_end}
use Rattle.fresh.proofs.ids_good.Goals as goal

pub loop-k-init : goal.loop-k-init
loop-k-init c = λ s. good_first c.args.fresh.now (working s c.args.n c.args.rows.now)

pub returns-then-not-id_good : goal.returns-then-not-id_good
returns-then-not-id_good c s =
    let a = c.args in
    sym (c.loop-k.invariant s ∙ good_not a.fresh.now (working s a.n a.rows.now) c.loop-k.k (omega arith) (sym (c.id_good.ensures s) ∙ c.if-not-id_good.true))

pub loop-k-preserved : goal.loop-k-preserved
loop-k-preserved c =
    let a = c.args in
    λ s. c.loop-k.invariant s ∙ good_on a.fresh.now (working s a.n a.rows.now) c.loop-k.k (omega arith) (sym (c.id_good.ensures s) ∙ c.if-not-id_good.false)

pub returns : goal.returns
returns c s =
    let a = c.args in
    sym (c.loop-k.invariant s ∙ good_end a.fresh.now (working s a.n a.rows.now) c.loop-k.k (omega arith))
