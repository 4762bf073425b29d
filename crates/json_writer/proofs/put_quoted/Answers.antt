-- `json_writer::put_quoted` meets its contract.
use native.Mathlib.Omega.{arith}
use Rattle.json_writer.proofs.Putting.{put_then, put_is}
use Rattle.json_writer.proofs.Pieces.{quoted_is}
use Rattle.json_writer.proofs.put_quoted.Goals as goal

pub returns : goal.returns
returns c = put_is (put_then c.put_byte-r.ensures (put_then c.put_inside-e.ensures c.put_byte.ensures)) (quoted_is c.args.text.now) (omega arith)
