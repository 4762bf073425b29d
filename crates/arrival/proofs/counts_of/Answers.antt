-- `arrival::counts_of` meets its contract.
use mathlib.Core.List.{[], ◌∷◌}
use mathlib.Core.Path.{◌∙◌}
use lib.ListN.{take}
use Rattle.model.specs.Catalog.{table_count}
use Rattle.arrival.proofs.Records.{counts}
use Rattle.arrival.proofs.counts_of.Goals as goal

pub returns : goal.returns
returns c =
    let x = c.args.schema.now in
    (λ j. take (table_count x) (c.width.ensures j ∷ c.width-2.ensures j ∷ c.width-3.ensures j ∷ c.width-4.ensures j ∷ [])) ∙ counts x c.requires
