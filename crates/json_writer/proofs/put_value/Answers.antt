-- `json_writer::put_value` meets its contract.
use Rattle.std.proofs.Common.{arith}
use Rattle.json_writer.proofs.Putting.{put_then, put_is}
use Rattle.json_writer.proofs.Joins.{set_none, set_one, set_many}
use Rattle.json_writer.proofs.put_value.Goals as goal

pub returns-in-0 : goal.returns-in-0
returns-in-0 c =
    let s = c.args in
    put_is c.put_bytes.ensures (set_none s.kind s.count s.atoms.now c.in-0.is) (omega arith)

pub returns-in-1 : goal.returns-in-1
returns-in-1 c =
    let s = c.args in
    put_is c.put_atom.ensures (set_one s.kind s.count s.atoms.now c.in-1.is (omega arith)) (omega arith)

pub returns-in_default : goal.returns-in_default
returns-in_default c =
    let s = c.args in
    put_is
    (put_then c.put_bytes-r.ensures (put_then c.put_atoms-e.ensures c.put_bytes-in_default.ensures))
    (set_many s.kind s.count s.atoms.now c.min-n.result (omega (arith, c.min-n.ensures, c.from.ensures)) c.requires.1 (omega arith))
    (omega arith)
