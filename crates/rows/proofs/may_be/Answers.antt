-- `rows::may_be` meets its contract.
use mathlib.Core.Path.{sym, ap, ◌∙◌}
use native.Mathlib.Omega.{arith}
use lib.Dec.{eqb}
use mathlib.Core.List.{List}
use Prim.Native.Nat.{ℕ, ◌%◌}
use Rattle.model.specs.Octets.{value}
use Rattle.inner.specs.Working.{id_in}
use Rattle.rows.proofs.Search.{low_half}
use Rattle.rows.proofs.may_be.Goals as goal

pub returns : goal.returns
unfolding id_in
returns c =
    let a = c.args in
    let i = c.id_of-id in
    let low = c.word in
    ap (λ (n : ℕ). eqb n a.low) (low.ensures ∙ sym (low_half i.result.now i.ensures.size (omega (arith, low.type_inv, low.ensures))) ∙ ap (λ (l : List ℕ). value l % 18446744073709551616) i.ensures.bytes)
