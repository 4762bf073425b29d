-- `json_writer::put_count` meets its contract.
use native.Mathlib.Omega.{arith}
use Rattle.json_writer.proofs.Putting.{put_then, put_is}
use Rattle.json_writer.proofs.Joins.{count_is}
use Rattle.json_writer.proofs.put_count.Goals as goal

pub returns : goal.returns
returns c = put_is (put_then c.put_bytes-r.ensures (put_then c.put_decimal-d.ensures c.put_byte.ensures)) (count_is c.args.count) (omega arith)
