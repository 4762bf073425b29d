-- `operations::on_table::count_unless` meets its contract.
use mathlib.Core.Path.{sym, ap, ◌∙◌}
use mathlib.Core.Bool.{Bool, true, false}
use Rattle.operations.specs.Ran.{count_unless}
use Rattle.operations.proofs.on_table.count_unless.Goals as goal

pub returns-then-is_fine : goal.returns-then-is_fine
unfolding count_unless
returns-then-is_fine c =
    sym (ap (λ (b : Bool). elim b [ true ↦ c.args.n | false ↦ 0 ]) (sym c.is_fine.ensures ∙ c.if-is_fine.true))

pub returns : goal.returns
unfolding count_unless
returns c =
    sym (ap (λ (b : Bool). elim b [ true ↦ c.args.n | false ↦ 0 ]) (sym c.is_fine.ensures ∙ c.if-is_fine.false))
