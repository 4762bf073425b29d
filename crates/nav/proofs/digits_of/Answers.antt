-- `nav::digits_of` meets its contract.
use Prim.Native.Nat.{◌-◌}
use mathlib.Core.Path.{◌≡◌, refl, sym, ap, ◌∙◌}
use native.Mathlib.Omega.{arith}
use borrow.Author.Tests.{lt-ltb, le-ltb}
use Rattle.model.specs.Whole.{sized}
use Rattle.model.specs.Scan.{byte, is_digit}
use Rattle.nav.proofs.Numbers.{between_more, between_none, sized_large, sized_digit, sized_other}
use Rattle.nav.proofs.digits_of.Goals as goal

pub loop-i-init : goal.loop-i-init
loop-i-init c = refl

pub returns-then-acc-gt922337203685477580 : goal.returns-then-acc-gt922337203685477580
returns-then-acc-gt922337203685477580 c =
    let s = c.args.text.now in
    let i = c.loop-i.i in
    sym (c.loop-i.invariant ∙ rw (between_more s i c.args.end c.loop-i-test.true c.requires)
    (sized_digit _ _ _ (ap is_digit (sym c.peek-b.ensures) ∙ sym c.is_digit-d.ensures ∙ c.if-d.true) ∙ sized_large _ _ (omega (arith, c.if-acc-gt922337203685477580.true))))

pub overflow_add-acc : goal.overflow_add-acc
overflow_add-acc c = omega (arith, c.peek-b.type_inv)

pub returns-else-d : goal.returns-else-d
returns-else-d c =
    let s = c.args.text.now in
    let i = c.loop-i.i in
    sym (c.loop-i.invariant ∙ rw (between_more s i c.args.end c.loop-i-test.true c.requires)
    (sized_other _ _ _ (ap is_digit (sym c.peek-b.ensures) ∙ sym c.is_digit-d.ensures ∙ c.if-d.false)))

pub loop-i-preserved : goal.loop-i-preserved
loop-i-preserved c =
    let s = c.args.text.now in
    let i = c.loop-i.i in
    let v : c.digit_value.result ≡ byte s i - 48 = c.digit_value.ensures ∙ ap (λ x. x - 48) c.peek-b.ensures in
    c.loop-i.invariant ∙ rw (between_more s i c.args.end c.loop-i-test.true c.requires, v)
    (sized_digit _ _ _ (ap is_digit (sym c.peek-b.ensures) ∙ sym c.is_digit-d.ensures ∙ c.if-d.true))

pub returns-then-acc-gt9223372036854775808 : goal.returns-then-acc-gt9223372036854775808
unfolding sized
returns-then-acc-gt9223372036854775808 c =
    sym (c.loop-i.invariant ∙ rw (between_none c.args.text.now c.loop-i.i c.args.end c.loop-i-test.false, sized, lt-ltb _ _ c.if-acc-gt9223372036854775808.true))

pub returns : goal.returns
unfolding sized
returns c =
    sym (c.loop-i.invariant ∙ rw (between_none c.args.text.now c.loop-i.i c.args.end c.loop-i-test.false, sized, le-ltb _ _ c.if-acc-gt9223372036854775808.false))
