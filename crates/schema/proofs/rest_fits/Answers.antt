-- `schema::rest_fits` meets its contract.
use mathlib.Core.Path.{ap, ◌∙◌}
use Rattle.model.specs.Nav.{is_text}
use Rattle.schema.proofs.Members.{rest_allowed_lem}
use Rattle.schema.proofs.rest_fits.Goals as goal

pub returns : goal.returns
returns c =
    rest_allowed_lem c.args.text.now c.args.f c.args.id c.version_in-v.result c.is_kind-c.result c.version_in-v.ensures (c.is_kind-c.ensures ∙ ap is_text c.kind_in-k.ensures)
