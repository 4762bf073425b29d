-- `rows::atoms_of` meets its contract.
use mathlib.Core.Path.{◌∙◌}
use Rattle.rows.proofs.Laws.{four_elements}
use Rattle.rows.proofs.atoms_of.Goals as goal

pub returns : goal.returns
returns c =
    let r = c.atoms_in-atoms in
    four_elements r.result.now r.ensures.1 ∙ r.ensures.0
