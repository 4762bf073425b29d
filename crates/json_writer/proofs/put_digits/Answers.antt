-- `json_writer::put_digits` meets its contract.
use Rattle.std.proofs.Common.{arith}
use Rattle.json_writer.proofs.Putting.{due_is, due_next, due_none}
use Rattle.json_writer.proofs.Pieces.{digits_next, digits_end}
use Rattle.json_writer.proofs.put_digits.Goals as goal

pub loop-k-preserved : goal.loop-k-preserved
loop-k-preserved c =
    let l = c.loop-k in
    let p = c.put_dash-d.ensures in
    let q = c.put_hex-r.ensures in
    (omega (arith, p.short, q.short), due_next (due_next (due_is l.invariant.1 (digits_next c.args.id.now l.k (omega arith))) p) q)

pub returns : goal.returns
returns c =
    let l = c.loop-k in
    due_none (due_is l.invariant.1 (digits_end c.args.id.now l.k (omega arith))) 48 (omega arith)
