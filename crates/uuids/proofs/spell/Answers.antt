-- `uuids::spell` meets its contract.
use mathlib.Core.Path.{sym, ap, ◌∙◌}
use native.Mathlib.Omega.{arith}
use borrow.Author.Tests.{ne_eqb, eq-eqb, lt-ltb, le-ltb}
use Rattle.model.specs.Strings.{hex_of}
use Rattle.uuids.specs.Ids.{shifted, spelt}
use Rattle.uuids.proofs.Spelling.{spelt_dash, spelt_other, spelt_digit, spelt_none, spelt_bad}
use Rattle.uuids.proofs.spell.Goals as goal

pub returns-then-b-eq45 : goal.returns-then-b-eq45
returns-then-b-eq45 c =
    let a = c.args in
    c.in-Some.is ∙ sym (ap (λ x. spelt x a.at a.b) c.in-Some.is ∙ spelt_dash c.in-Some.high c.in-Some.low a.at a.b (sym c.is_dash-dash.ensures ∙ c.if-dash.true) (eq-eqb a.b 45 c.if-b-eq45.true))

pub returns-then-dash : goal.returns-then-dash
returns-then-dash c =
    let a = c.args in
    sym (ap (λ x. spelt x a.at a.b) c.in-Some.is ∙ spelt_other c.in-Some.high c.in-Some.low a.at a.b (sym c.is_dash-dash.ensures ∙ c.if-dash.true) (ne_eqb a.b 45 c.if-b-eq45.false))

pub returns-then-d-lt16 : goal.returns-then-d-lt16
returns-then-d-lt16 c =
    let a = c.args in
    c.shift.ensures ∙ ap (shifted c.in-Some.high c.in-Some.low) c.hex_digit-d.ensures
    ∙ sym (ap (λ x. spelt x a.at a.b) c.in-Some.is ∙ spelt_digit c.in-Some.high c.in-Some.low a.at a.b (sym c.is_dash-dash.ensures ∙ c.if-dash.false) (lt-ltb (hex_of a.b) 16 (omega (arith, c.hex_digit-d.ensures, c.if-d-lt16.true))))

pub returns-else-d-lt16 : goal.returns-else-d-lt16
returns-else-d-lt16 c =
    let a = c.args in
    sym (ap (λ x. spelt x a.at a.b) c.in-Some.is ∙ spelt_none c.in-Some.high c.in-Some.low a.at a.b (sym c.is_dash-dash.ensures ∙ c.if-dash.false) (le-ltb (hex_of a.b) 16 (omega (arith, c.hex_digit-d.ensures, c.if-d-lt16.false))))

pub returns-in-None : goal.returns-in-None
returns-in-None c =
    let a = c.args in
    sym (ap (λ x. spelt x a.at a.b) c.in-None.is ∙ spelt_bad a.at a.b)
