-- `rows::same_bytes` meets its contract.
use mathlib.Core.Path.{sym, ◌∙◌}
use native.Mathlib.Omega.{arith}
use Rattle.rows.proofs.Laws.{same_on, same_end}
use Rattle.rows.proofs.same_bytes.Goals as goal

pub loop-k-preserved : goal.loop-k-preserved
loop-k-preserved c =
    let l = c.loop-k in
    l.invariant ∙ same_on c.args.x.now c.args.y.now l.k l.same (omega arith) (omega arith)

pub returns : goal.returns
returns c =
    let l = c.loop-k in
    sym (l.invariant ∙ same_end c.args.x.now c.args.y.now l.k l.same (omega arith) (omega arith))
