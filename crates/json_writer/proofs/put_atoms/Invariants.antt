-- The loop of `json_writer::put_atoms`.
use Rattle.std.proofs.Common.{true, ◌+◌, ◌*◌, ◌≤◌, eqb, take, drop}
use Rattle.json_writer.specs.Texts.{joined, atom_texts}
use Rattle.json_writer.proofs.Putting.{Due}
use Rattle.json_writer.proofs.put_atoms.Given as goal

abbrev pub invariant-loop-i : goal.invariant-loop-i
invariant-loop-i l = (l.r ≤ l.at + 147 * l.i) × Due l.initial.out l.at (joined true (atom_texts l.kind (take l.n l.atoms))) l.out l.r (joined (eqb l.i 0) (atom_texts l.kind (drop l.i (take l.n l.atoms))))
