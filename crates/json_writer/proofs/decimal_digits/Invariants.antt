-- The loop of `json_writer::decimal_digits`.
use Rattle.std.proofs.Common.{◌≡◌, drop}
use Rattle.model.specs.Answers.{digits_before}
use Rattle.json_writer.specs.Texts.{decimal_text}
use Rattle.json_writer.proofs.decimal_digits.Given as goal

abbrev pub invariant-loop-i : goal.invariant-loop-i
invariant-loop-i l = digits_before l.i l.v (drop l.i l.digits) ≡ decimal_text l.n
