-- `json_writer::decimal_digits` meets its contract.
use Rattle.std.proofs.Common.{◌≡◌, ℕ, ◌-◌, drop, sym, ap, ◌∙◌, arith, drop_of_length-le}
use Rattle.model.specs.Answers.{digits_before}
use Rattle.json_writer.specs.Texts.{decimal_text}
use Rattle.json_writer.proofs.Digits.{digit_more, digit_first}
use Rattle.json_writer.proofs.decimal_digits.Goals as goal

pub loop-i-init : goal.loop-i-init
unfolding decimal_text
loop-i-init c = ap (digits_before 20 c.args.n) (drop_of_length-le c.args.digits.now {i = 20} (omega arith))

pub loop-i-preserved : goal.loop-i-preserved
loop-i-preserved c =
    let l = c.loop-i in
    sym (digit_more l.digits (l.i - 1) l.v l.i (omega arith) (omega arith) c.if-v-lt10.false) ∙ l.invariant

pub returns-then-v-lt10 : goal.returns-then-v-lt10
returns-then-v-lt10 c =
    let l = c.loop-i in
    record { upper_bound = omega arith; digits_after = sym (digit_first l.digits (l.i - 1) l.v l.i (omega arith) (omega arith) c.if-v-lt10.true) ∙ l.invariant }

pub returns : goal.returns
returns c =
    let l = c.loop-i in
    let e : l.i ≡ 0 = omega arith in
    record { upper_bound = omega arith; digits_after = sym (ap (λ (k : ℕ). digits_before k l.v (drop k l.digits)) e) ∙ l.invariant }
