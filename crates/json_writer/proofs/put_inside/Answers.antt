-- `json_writer::put_inside` meets its contract.
use Rattle.std.proofs.Common.{arith}
use Rattle.json_writer.proofs.Putting.{due_is, due_next, due_none}
use Rattle.json_writer.proofs.Pieces.{inside_next, inside_end}
use Rattle.json_writer.proofs.put_inside.Goals as goal

pub loop-b-preserved : goal.loop-b-preserved
loop-b-preserved c =
    let l = c.loop-b in
    let p = c.put_escaped-r.ensures in
    (omega (arith, p.short), due_next (due_is l.invariant.1 (inside_next c.args.text.now l.b-index (omega arith))) p)

pub returns : goal.returns
returns c =
    let l = c.loop-b in
    due_none (due_is l.invariant.1 (inside_end c.args.text.now l.b-index (omega arith))) _ (omega arith)
