-- `uuids::put_uuid` meets its contract.
use Rattle.std.specs.Prelude.{Some}
use mathlib.Core.Path.{sym, ap, ◌∙◌}
use Rattle.uuids.specs.Ids.{id_atom}
use Rattle.uuids.proofs.Atoms.{atom_there, atom_none}
use Rattle.uuids.proofs.put_uuid.Goals as goal

pub returns-in-Some : goal.returns-in-Some
unfolding id_atom
returns-in-Some c = atom_there (ap id_atom c.in-Some.is ∙ ap Some (sym c.put_id.ensures))

pub returns-in-None : goal.returns-in-None
unfolding id_atom
returns-in-None c = atom_none (ap id_atom c.in-None.is)
