-- `record::atoms` meets its contract.
use mathlib.Core.Path.{◌∙◌}
use mathlib.Core.List.{[], ◌∷◌}
use Rattle.record.proofs.Readings.{parts_cut}
use Rattle.record.proofs.atoms.Goals as goal

pub returns : goal.returns
returns c =
    (λ j. c.atom_at.ensures j ∷ c.atom_at-2.ensures j ∷ c.atom_at-3.ensures j ∷ c.atom_at-4.ensures j ∷ [])
    ∙ parts_cut c.args.bytes.now
