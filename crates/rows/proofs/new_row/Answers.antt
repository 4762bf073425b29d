-- `rows::new_row` meets its contract.
use mathlib.Core.Path.{ap, ◌∙◌}
use mathlib.Core.List.{List, ◌∷◌}
use Prim.Native.Nat.{ℕ}
use lib.ListN.{replicate}
use Rattle.model.specs.Octets.{value}
use Rattle.model.specs.Value.{blank}
use Rattle.inner.proofs.NewRows.{new_cells}
use Rattle.rows.proofs.new_row.Goals as goal

pub returns : goal.returns
returns c =
    let a = c.args in
    record { value = λ cs few m. ap (λ (h : List ℕ). h ∷ replicate 24 blank) (c.new_head.ensures.value cs few m) ∙ new_cells a.table a.id.now cs few (value a.id.now); id_bound = c.new_head.ensures.id_bound }
