-- `rows::less_keys` meets its contract.
use mathlib.Core.Path.{sym, ◌∙◌}
use native.Mathlib.Omega.{arith}
use Rattle.model.proofs.Octets.{octets}
use Rattle.inner.proofs.Working.{ltb_value}
use Rattle.rows.proofs.less_keys.Goals as goal

pub returns : goal.returns
returns c =
    let x = c.args.x.now in
    let y = c.args.y.now in
    c.less.ensures ∙ sym (ltb_value x y (omega arith) (octets x (λ i. omega (arith, c.shared_slice_known-1.given i))) (octets y (λ i. omega (arith, c.shared_slice_known-2-1.given i))))
