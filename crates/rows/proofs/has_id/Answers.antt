-- `rows::has_id` meets its contract.
use mathlib.Core.Path.{sym, ◌∙◌}
use Rattle.rows.proofs.has_id.Goals as goal

pub returns : goal.returns
returns c = λ s. c.has_id_from.ensures s ∙ sym (c.passed-i.ensures.1 s)
