-- `json_writer::put_insert` meets its contract.
use native.Mathlib.Omega.{arith}
use Rattle.json_writer.proofs.Putting.{put_then, put_is}
use Rattle.json_writer.proofs.Joins.{insert_is}
use Rattle.json_writer.proofs.put_insert.Goals as goal

pub returns : goal.returns
returns c = put_is (put_then c.put_bytes-r.ensures (put_then c.put_id-d.ensures c.put_byte.ensures)) (insert_is c.args.id.now) (omega arith)
