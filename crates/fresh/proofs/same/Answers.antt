-- `fresh::same` meets its contract.
use mathlib.Core.Path.{◌≡◌, sym, ◌∙◌}
use Rattle.std.proofs.Common.{rules}
use Rattle.model.specs.Octets.{eq_bytes}
use native.Mathlib.Omega.{arith}
use Rattle.model.proofs.Octets.{octets}
use Rattle.inner.proofs.Working.{eqb_value}
use Rattle.fresh.proofs.same.Goals as goal

pub returns : goal.returns
returns c =
    let x = c.args.a.now in
    let y = c.args.b.now in
    let e : c.eq.result ≡ eq_bytes x y = search rules in
    e ∙ sym (eqb_value x y (omega arith) (octets x (λ i. omega (arith, c.shared_slice_known-1.given i))) (octets y (λ i. omega (arith, c.shared_slice_known-2-1.given i))))
