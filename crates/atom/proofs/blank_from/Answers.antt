-- `atom::blank_from` meets its contract.
use Rattle.model.proofs.Octets.{octets}
use Rattle.atom.proofs.blank_from.Goals as goal

pub returns-clause-typed : goal.returns-clause-typed
returns-clause-typed c = record { size = c.told-a; bytes = λ _. octets c.args.a.now c.fits-a }
