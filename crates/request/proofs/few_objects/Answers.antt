-- `request::few_objects` meets its contract.
use mathlib.Core.Path.{refl, sym, ap, ◌∙◌}
use native.Mathlib.Omega.{arith}
use Rattle.inner.specs.Positions.{items_from}
use Rattle.model.specs.Nav.{is_object}
use Rattle.nav.proofs.Walk.{walk_less}
use Rattle.indexes.proofs.Judged.{passed_end, passed_more, passed_bad, passed_on}
use Rattle.request.proofs.Objects.{few_many, few_bad, few_end}
use Rattle.request.proofs.few_objects.Goals as goal

pub loop-g-init : goal.loop-g-init
loop-g-init c = (omega arith, record { size = omega arith; rest = refl; fine = c.requires.f_value })

pub returns-then-n-ge-OPERATIONS : goal.returns-then-n-ge-OPERATIONS
returns-then-n-ge-OPERATIONS c =
    let a = c.args in
    few_many (items_from a.text.now a.f) c.no_items.ensures (omega (arith, passed_more c.loop-g.invariant.1 c.in-Some.is, c.if-n-ge-OPERATIONS.true))

pub overflow_add-n : goal.overflow_add-n
overflow_add-n c = omega (arith, c.if-n-ge-OPERATIONS.false)

pub next_item-g-requires : goal.next_item-g-requires
next_item-g-requires c = c.requires.says

pub loop-g-smaller : goal.loop-g-smaller
loop-g-smaller c =
    rw c.next_item-g.ensures (walk_less c.args.text.now c.in-Some.is)

pub loop-g-preserved : goal.loop-g-preserved
loop-g-preserved c =
    let e = sym (c.is_kind-o.ensures ∙ ap is_object c.kind_at-k.ensures) ∙ c.if-o.true in
    (omega (arith, c.if-n-ge-OPERATIONS.false), passed_on c.loop-g.invariant.1 c.in-Some.is e refl c.next_item-g.ensures)

pub returns-else-o : goal.returns-else-o
returns-else-o c =
    let a = c.args in
    let e = sym (c.is_kind-o.ensures ∙ ap is_object c.kind_at-k.ensures) ∙ c.if-o.false in
    few_bad (items_from a.text.now a.f) c.no_items-else-o.ensures (passed_bad c.loop-g.invariant.1 c.in-Some.is e)

pub returns : goal.returns
returns c =
    let a = c.args in
    few_end (items_from a.text.now a.f) c.loop-g.invariant.0 (passed_end c.loop-g.invariant.1 c.in_default.is)
