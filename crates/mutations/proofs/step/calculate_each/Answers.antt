-- `mutations::step::calculate_each` meets its contract.
use mathlib.Core.Path.{◌≡◌, sym, ap, ◌∙◌}
use mathlib.Core.List.{[]}
use lib.IntN.{ℤ}
use lib.ListN.{get_or}
use Rattle.model.specs.Value.{int_of}
use Rattle.integers.specs.Ints.{int_in, calculated}
use Rattle.mutations.proofs.Calculating.{int_in_lem, going_on, going_zero, going_outside, going_end}
use Rattle.mutations.proofs.step.calculate_each.Goals as goal

pub loop-i-preserved : goal.loop-i-preserved
loop-i-preserved c =
    let a = c.args in
    let x = get_or a.xs.now c.loop-i.i [] in
    let p : calculated a.m (int_of x) (int_in a.b) ≡ c.calculate.result = ap (λ (y : ℤ). calculated a.m y (int_in a.b)) (sym (ap int_in c.of_atom.ensures ∙ int_in_lem (int_of x))) ∙ sym c.calculate.ensures in
    going_on a.m (int_in a.b) a.xs.now a.out.now c.requires c.loop-i.i c.loop-i.out c.loop-i.invariant c.loop-i-test.true c.in-Number.z c.to_atom.result (p ∙ c.in-Number.is) c.to_atom.ensures

pub returns-in-ByZero : goal.returns-in-ByZero
returns-in-ByZero c =
    let a = c.args in
    let x = get_or a.xs.now c.loop-i.i [] in
    let p : calculated a.m (int_of x) (int_in a.b) ≡ c.calculate.result = ap (λ (y : ℤ). calculated a.m y (int_in a.b)) (sym (ap int_in c.of_atom.ensures ∙ int_in_lem (int_of x))) ∙ sym c.calculate.ensures in
    going_zero a.m (int_in a.b) a.xs.now a.out.now c.requires c.loop-i.i c.loop-i.out c.loop-i.invariant c.loop-i-test.true (p ∙ c.in-ByZero.is) c.loop-i.out

pub returns-in-Outside : goal.returns-in-Outside
returns-in-Outside c =
    let a = c.args in
    let x = get_or a.xs.now c.loop-i.i [] in
    let p : calculated a.m (int_of x) (int_in a.b) ≡ c.calculate.result = ap (λ (y : ℤ). calculated a.m y (int_in a.b)) (sym (ap int_in c.of_atom.ensures ∙ int_in_lem (int_of x))) ∙ sym c.calculate.ensures in
    going_outside a.m (int_in a.b) a.xs.now a.out.now c.requires c.loop-i.i c.loop-i.out c.loop-i.invariant c.loop-i-test.true (p ∙ c.in-Outside.is) c.loop-i.out

pub returns : goal.returns
returns c =
    let a = c.args in
    going_end a.m (int_in a.b) a.xs.now a.out.now c.requires c.loop-i.i c.loop-i.out c.loop-i.invariant c.loop-i-test.false
