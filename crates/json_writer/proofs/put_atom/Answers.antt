-- `json_writer::put_atom` meets its contract.
use native.Mathlib.Omega.{arith}
use Rattle.json_writer.proofs.Putting.{put_is}
use Rattle.json_writer.proofs.Joins.{atom_integer, atom_boolean, atom_text_lem, atom_uuid}
use Rattle.json_writer.proofs.put_atom.Goals as goal

pub returns-in-0 : goal.returns-in-0
returns-in-0 c = put_is c.put_integer.ensures (atom_integer c.args.kind c.args.atom.now c.in-0.is) (omega arith)

pub returns-in-1 : goal.returns-in-1
returns-in-1 c = put_is c.put_truth.ensures (atom_boolean c.args.kind c.args.atom.now c.in-1.is) (omega arith)

pub returns-in-2 : goal.returns-in-2
returns-in-2 c = put_is c.put_text.ensures (atom_text_lem c.args.kind c.args.atom.now c.in-2.is) (omega arith)

pub returns-in_default : goal.returns-in_default
returns-in_default c = put_is c.put_uuid.ensures (atom_uuid c.args.kind c.args.atom.now (λ e. omega arith) (λ e. omega arith) (λ e. omega arith)) (omega arith)
