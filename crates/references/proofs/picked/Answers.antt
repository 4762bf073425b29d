-- `references::picked` meets its contract.
use Rattle.references.proofs.Links.{pick_plain, pick_some, pick_other}
use Rattle.references.proofs.picked.Goals as goal
use Rattle.references.proofs.picked.Goals.{else-kind-ne0-via-then-kind-ne0+else-kind-how, else-kind-ne0-via-else-kind-ne0}

pub returns-then-kind-how : goal.returns-then-kind-how
returns-then-kind-how c =
    let a = c.args in
    pick_some a.how a.kind a.table c.if-kind-ne0.true c.if-kind-how.true

pub returns-else-kind-ne0 : goal.returns-else-kind-ne0
returns-else-kind-ne0 c =
    let a = c.args in
    elim c.else-kind-ne0.branch [
      | else-kind-ne0-via-then-kind-ne0+else-kind-how w ↦ pick_other a.how a.kind a.table w.if-kind-ne0.true w.if-kind-how.false
      | else-kind-ne0-via-else-kind-ne0 w ↦ pick_plain a.how a.kind a.table w.if-kind-ne0.false
    ]
