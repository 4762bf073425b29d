-- `rows::atoms_in` meets its contract.
use mathlib.Core.Path.{◌≡◌, ap, ◌∙◌}
use Prim.Native.Nat.{ℕ, ◌+◌, ◌*◌, ◌-◌}
use native.Mathlib.Omega.{arith}
use lib.ListN.{length, take, drop, length-drop}
use lib.Seq.{length-take-le}
use Rattle.inner.specs.Working.{value_in}
use Rattle.rows.proofs.atoms_in.Goals as goal

pub returns : goal.returns
unfolding value_in
returns c =
    let a = c.args in
    let e : 1 + 4 * a.c + 4 - (1 + 4 * a.c) ≡ 4 = omega arith in
    let r = drop (1 + 4 * a.c) a.row.now in
    (ap (λ (n : ℕ). take n r) e, ap (λ (n : ℕ). length (take n r)) e ∙ length-take-le 4 r (omega (arith, length-drop (1 + 4 * a.c) a.row.now, c.told-row)))
