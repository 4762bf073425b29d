-- `rows::has_this_id` meets its contract.
use mathlib.Core.Path.{ap, ◌∙◌}
use lib.Dec.{eqb}
use Rattle.model.specs.Octets.{value}
use Rattle.inner.specs.Working.{id_in}
use Rattle.rows.proofs.has_this_id.Goals as goal

pub returns : goal.returns
unfolding id_in
returns c =
    c.same_ids.ensures ∙ ap (λ b. eqb (value c.args.id.now) (value b)) c.id_of.ensures.bytes
