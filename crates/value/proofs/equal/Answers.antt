-- `value::equal` meets its contract.
use mathlib.Core.Path.{refl, sym, ◌∙◌}
use native.Mathlib.Omega.{arith}
use Rattle.value.proofs.Alike.{lists_on, lists_off, lists_end, lists_length}
use Rattle.value.proofs.equal.Goals as goal

pub returns-then-l-m : goal.returns-then-l-m
returns-then-l-m c = sym (lists_length c.args.l.now c.args.m.now c.if-l-m.true)

pub loop-i-init : goal.loop-i-init
loop-i-init c = refl

pub bounds-m-i : goal.bounds-m-i
bounds-m-i c = omega (arith, c.if-l-m.false)

pub returns-then-not-same : goal.returns-then-not-same
returns-then-not-same c =
    let o = c.loop-i in
    sym (o.invariant ∙ lists_off c.args.l.now c.args.m.now o.i (omega arith) (omega (arith, c.if-l-m.false)) (sym c.same.ensures ∙ c.if-not-same.true))

pub loop-i-preserved : goal.loop-i-preserved
loop-i-preserved c =
    let o = c.loop-i in
    o.invariant ∙ lists_on c.args.l.now c.args.m.now o.i (omega arith) (omega (arith, c.if-l-m.false)) (sym c.same.ensures ∙ c.if-not-same.false)

pub returns : goal.returns
returns c =
    let o = c.loop-i in
    sym (o.invariant ∙ lists_end c.args.l.now c.args.m.now o.i c.loop-i-test.false (omega (arith, c.if-l-m.false)))
