-- `json_writer::put_atoms` meets its contract.
use Rattle.std.proofs.Common.{take, arith, length-take}
use Rattle.json_writer.proofs.Putting.{due_is, due_next, due_none}
use Rattle.json_writer.proofs.Joins.{atoms_next, atoms_end}
use Rattle.json_writer.proofs.put_atoms.Goals as goal

pub loop-i-preserved : goal.loop-i-preserved
loop-i-preserved c =
    let l = c.loop-i in
    let p = c.put_comma-d.ensures in
    let q = c.put_atom-r.ensures in
    (omega (arith, p.short, q.short), due_next (due_next (due_is l.invariant.1 (atoms_next c.args.kind (take c.args.n c.args.atoms.now) l.i c.loop-i-test.true)) p) q)

pub returns : goal.returns
returns c =
    let l = c.loop-i in
    due_none (due_is l.invariant.1 (atoms_end c.args.kind (take c.args.n c.args.atoms.now) l.i (omega arith))) 588 (omega (arith, length-take c.args.n c.args.atoms.now))
