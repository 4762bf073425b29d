-- `projection::put_name` meets its contract.
use mathlib.Core.Path.{ap, ◌∙◌}
use native.Mathlib.Omega.{arith}
use Rattle.json_writer.proofs.Putting.{put_then, put_is}
use Rattle.projection.specs.Shown.{name_text}
use Rattle.projection.proofs.Columns.{colon_is}
use Rattle.projection.proofs.put_name.Goals as goal

pub returns : goal.returns
returns c = put_is (put_then c.put_quoted-r.ensures c.put_byte.ensures) (colon_is _ ∙ ap name_text c.name_of.ensures.0) (omega (arith, c.name_of.ensures.1))
