-- The class of the bytes that `scan::digits` passes.
use Rattle.model.specs.Scan.{is_digit}
use Rattle.scan.proofs.digits.Given as goal

abbrev pub ghost-passing : goal.ghost-passing
ghost-passing a = is_digit
