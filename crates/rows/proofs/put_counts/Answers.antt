-- `rows::put_counts` meets its contract.
use mathlib.Core.Path.{◌≡◌, ◌∙◌}
use native.Mathlib.Omega.{arith}
use lib.ListN.{length, set}
use Rattle.inner.specs.Working.{born_count}
use Rattle.rows.proofs.Laws.{made_more, made_end}
use Rattle.rows.proofs.put_counts.Goals as goal

pub loop-k-preserved : goal.loop-k-preserved
loop-k-preserved c =
    let l = c.loop-k in
    (λ j. set (l.invariant j) l.k (c.born_count.ensures j)) ∙ made_more born_count c.args.out.now c.args.mins.now l.k (omega arith) (omega arith)

pub returns : goal.returns
returns c =
    let l = c.loop-k in
    let e : length c.args.mins.now ≡ l.k = omega arith in
    l.invariant ∙ made_end born_count c.args.out.now c.args.mins.now l.k e (c.requires ∙ e)
