-- `tables::rest_fits` meets its contract.
use mathlib.Core.Path.{ap, ◌∙◌}
use Rattle.model.specs.Nav.{is_truth}
use Rattle.tables.proofs.Shapes.{rest_allowed_lem}
use Rattle.tables.proofs.rest_fits.Goals as goal

pub returns : goal.returns
returns c =
    rest_allowed_lem c.args.text.now c.args.f c.args.w c.is_within-a.result c.is_kind-b.result c.is_within-a.ensures (c.is_kind-b.ensures ∙ ap is_truth c.kind_in-k.ensures)
