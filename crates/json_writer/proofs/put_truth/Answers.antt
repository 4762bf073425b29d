-- `json_writer::put_truth` meets its contract.
use native.Mathlib.Omega.{arith}
use Rattle.json_writer.proofs.Putting.{put_is}
use Rattle.json_writer.proofs.Joins.{truth_zero, truth_other}
use Rattle.json_writer.proofs.put_truth.Goals as goal

pub returns-then-b-eq0 : goal.returns-then-b-eq0
returns-then-b-eq0 c = put_is c.put_bytes.ensures (truth_zero _ c.if-b-eq0.true) (omega arith)

pub returns-else-b-eq0 : goal.returns-else-b-eq0
returns-else-b-eq0 c = put_is c.put_bytes-else-b-eq0.ensures (truth_other _ c.if-b-eq0.false) (omega arith)
