-- `fresh::id_at` meets its contract.
use Prim.Native.Nat.{◌+◌, ◌-◌, ◌*◌}
use mathlib.Core.Path.{◌≡◌, ap}
use native.Mathlib.Omega.{arith}
use lib.ListN.{take, drop}
use Rattle.fresh.proofs.Ids.{fresh_id}
use Rattle.fresh.proofs.id_at.Goals as goal

pub returns : goal.returns
returns c =
    let n : 16 * c.args.k + 16 - 16 * c.args.k ≡ 16 = omega arith in
    fresh_id c.args.fresh.now _ c.args.k c.requires.1 c.requires.0 (ap (λ m. take m (drop (16 * c.args.k) c.args.fresh.now)) n)
