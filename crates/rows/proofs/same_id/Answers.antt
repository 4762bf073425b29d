-- `rows::same_id` meets its contract.
use mathlib.Core.Path.{◌∙◌}
use lib.Dec.{eqb}
use Rattle.model.specs.Octets.{value}
use Rattle.inner.specs.Working.{id_in}
use Rattle.rows.proofs.same_id.Goals as goal

pub returns : goal.returns
unfolding id_in
returns c =
    let p = c.id_of.ensures.bytes in
    let q = c.id_of-2.ensures.bytes in
    c.same_ids.ensures ∙ (λ j. eqb (value (p j)) (value (q j)))
