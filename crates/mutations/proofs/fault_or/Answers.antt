-- `mutations::fault_or` meets its contract.
use mathlib.Core.Path.{sym, ap, ◌∙◌}
use mathlib.Core.Bool.{Bool, true, false}
use Rattle.mutations.specs.Mutating.{fault_or}
use Rattle.mutations.proofs.fault_or.Goals as goal

pub returns-then-is_fine : goal.returns-then-is_fine
unfolding fault_or
returns-then-is_fine c =
    let a = c.args in
    sym (ap (λ (b : Bool). elim b [ true ↦ a.g | false ↦ a.f ]) (sym c.is_fine.ensures ∙ c.if-is_fine.true))

pub returns : goal.returns
unfolding fault_or
returns c =
    let a = c.args in
    sym (ap (λ (b : Bool). elim b [ true ↦ a.g | false ↦ a.f ]) (sym c.is_fine.ensures ∙ c.if-is_fine.false))
