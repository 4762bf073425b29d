-- `value::first` meets its contract.
use Rattle.std.proofs.Common.{◌≡◌, take, rules}
use Rattle.value.proofs.Fours.{first_padded}
use Rattle.value.proofs.first.Goals as goal

pub returns : goal.returns
returns c =
    let e : c.copy_from_slice.new.self ≡ take c.args.n c.args.atoms = search rules in
    first_padded c.args.atoms c.copy_from_slice.new.self c.args.n c.well_formed.0.1.0.1 c.requires e
