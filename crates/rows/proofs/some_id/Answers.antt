-- `rows::some_id` meets its contract.
use mathlib.Core.Path.{ap, ◌∙◌}
use mathlib.Core.Bool.{not}
use native.Mathlib.Omega.{arith}
use Rattle.model.proofs.Octets.{octets}
use Rattle.rows.proofs.Laws.{some_id}
use Rattle.rows.proofs.some_id.Goals as goal

pub returns : goal.returns
returns c =
    let id = c.args.id.now in
    ap not c.same_bytes.ensures ∙ some_id id c.requires (octets id (λ i. omega (arith, c.shared_slice_known-1.given i)))
