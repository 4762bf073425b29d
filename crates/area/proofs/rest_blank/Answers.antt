-- `area::rest_blank` meets its contract.
use mathlib.Core.Path.{◌≡◌, ap, ◌∙◌}
use Prim.Native.Nat.{ℕ, ◌+◌, ◌-◌, ◌*◌}
use native.Mathlib.Omega.{arith}
use Rattle.model.specs.Octets.{part}
use Rattle.model.specs.Limits.{rows_offset, store_bytes}
use Rattle.model.specs.Value.{zeros}
use Rattle.area.proofs.rest_blank.Goals as goal

pub returns : goal.returns
returns c =
    let a = c.args.area.now in
    let n = c.args.n in
    let f : store_bytes - (rows_offset + 625 * n) ≡ 625 * (32 - n) = omega arith in
    c.zeros_from.ensures ∙ ap (λ (m : ℕ). zeros (part (rows_offset + 625 * n) m a)) f
