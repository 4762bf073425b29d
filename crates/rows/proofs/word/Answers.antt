-- `rows::word` meets its contract.
use mathlib.Core.Path.{ap, ◌∙◌}
use native.Mathlib.Omega.{arith}
use lib.Seq.{take_all}
use Rattle.model.specs.Octets.{value}
use Rattle.rows.proofs.word.Goals as goal

pub returns : goal.returns
returns c = c.number.ensures ∙ ap value (take_all 8 c.args.b.now (omega arith))
