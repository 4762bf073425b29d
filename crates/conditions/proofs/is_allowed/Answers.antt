-- `conditions::is_allowed` meets its contract.
use mathlib.Core.Path.{sym, ap, ◌∙◌}
use mathlib.Core.Bool.{Bool, ◌&&◌}
use lib.Dec.{eqb}
use lib.ListN.{get_or}
use borrow.Author.Tests.{eq-eqb, ne_eqb}
use Rattle.conditions.proofs.Faulty.{allowed_order}
use Rattle.conditions.proofs.is_allowed.Goals as goal

pub returns-then-kind-eq0 : goal.returns-then-kind-eq0
returns-then-kind-eq0 c =
    let x = c.args.column.now in
    c.is_scalar.ensures ∙ ap (λ (b : Bool). b && (eqb (get_or x 28 0) 1 && eqb (get_or x 29 0) 1)) (sym (eq-eqb (get_or x 25 0) 0 (sym c.kind.ensures ∙ c.if-kind-eq0.true)))
    ∙ allowed_order x c.args.f (sym c.orders.ensures ∙ c.if-not-orders.false)

pub returns-else-kind-eq0 : goal.returns-else-kind-eq0
returns-else-kind-eq0 c =
    let x = c.args.column.now in
    ne_eqb c.kind.result 0 c.if-kind-eq0.false ∙ ap (λ (b : Bool). b && (eqb (get_or x 28 0) 1 && eqb (get_or x 29 0) 1)) (sym (ne_eqb (get_or x 25 0) 0 (λ q. c.if-kind-eq0.false (c.kind.ensures ∙ q))))
    ∙ allowed_order x c.args.f (sym c.orders.ensures ∙ c.if-not-orders.false)
