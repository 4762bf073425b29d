-- `json_writer::put_error` meets its contract.
use native.Mathlib.Omega.{arith}
use Rattle.json_writer.proofs.Putting.{put_then, put_is}
use Rattle.json_writer.proofs.Joins.{error_is}
use Rattle.json_writer.proofs.put_error.Goals as goal

pub returns : goal.returns
returns c = put_is (put_then c.put_bytes-r.ensures (put_then c.put_words-w.ensures c.put_bytes.ensures)) (error_is c.args.fault) (omega arith)
