-- `atom::well_text` meets its contract.
use Rattle.atom.proofs.Typed.{sized_atom}
use Rattle.model.proofs.Octets.{octets}
use Rattle.atom.proofs.well_text.Goals as goal

pub returns-then-is_utf8-clause-a_value : goal.returns-then-is_utf8-clause-a_value
returns-then-is_utf8-clause-a_value c = λ _. sized_atom c.args.a.now c.told-a (octets c.args.a.now c.fits-a)
