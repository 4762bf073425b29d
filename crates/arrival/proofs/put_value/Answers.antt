-- `arrival::put_value` meets its contract.
use mathlib.Core.List.{◌∷◌}
use mathlib.Core.Path.{◌∙◌}
use Rattle.model.specs.Base.{flat}
use Rattle.arrival.proofs.Changes.{value_put}
use Rattle.arrival.proofs.put_value.Goals as goal

pub returns : goal.returns
returns c =
    let b = c.count_of.result in
    let p = c.count_of.ensures in
    let q = c.atoms_in.ensures.0 in
    value_put c.args.out.now c.put_atoms.new.out b c.atoms_in.result.now c.requires.out_len c.put_atoms.ensures.atoms_len c.put_atoms.ensures.out_after
    ∙ (λ j. p j ∷ flat (q j))
