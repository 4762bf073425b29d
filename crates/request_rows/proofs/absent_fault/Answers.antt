-- `request_rows::absent_fault` meets its contract.
use Rattle.std.proofs.Common.{arith}
use Rattle.std.proofs.lemmas.Grind.{common_steps}
use Rattle.request_rows.proofs.absent_fault.Goals as goal
use Rattle.request_rows.proofs.absent_fault.Goals.{else-insert-via-then-insert+then-minimum-ne0+else-not-within, else-insert-via-then-insert+else-minimum-ne0, else-insert-via-else-insert}

pub returns : goal.returns
returns c =
    elim c.else-insert.branch [
      | else-insert-via-then-insert+then-minimum-ne0+else-not-within w ↦ grind (arith, common_steps)
      | else-insert-via-then-insert+else-minimum-ne0 w ↦ grind (arith, common_steps)
      | else-insert-via-else-insert w ↦ grind (arith, common_steps)
    ]
