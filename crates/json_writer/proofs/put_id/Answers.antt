-- `json_writer::put_id` meets its contract.
use native.Mathlib.Omega.{arith}
use Rattle.json_writer.proofs.Putting.{put_then, put_is}
use Rattle.json_writer.proofs.Pieces.{id_is}
use Rattle.json_writer.proofs.put_id.Goals as goal

pub returns : goal.returns
returns c =
    put_is
    (put_then c.put_bytes-r.ensures (put_then c.put_digits-d.ensures c.put_bytes.ensures))
    (id_is c.args.id.now c.requires.1 (λ k. omega (arith, c.shared_slice_known-1.given k)))
    (omega arith)
