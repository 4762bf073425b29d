-- `row_types::integer` meets its contract.
use mathlib.Core.Path.{ap, ◌∙◌}
use mathlib.Core.List.{List}
use Prim.Native.Nat.{ℕ, ◌<◌}
use native.Mathlib.Omega.{arith}
use lib.ListN.{take}
use Rattle.model.specs.Octets.{value}
use Rattle.model.specs.Value.{from_twos}
use Rattle.model.proofs.Octets.{value_big_fits}
use Rattle.row_types.proofs.integer.Goals as goal

pub returns : goal.returns
returns c =
    let h : c.args.x < 18446744073709551616 = omega (arith, c.ranges) in
    ap (λ (l : List ℕ). from_twos (value (take 8 l))) c.put_number.ensures ∙ ap from_twos (value_big_fits 8 c.args.x h)
