-- The class of the bytes that `scan::plain_bytes` passes.
use Rattle.scan.specs.Strings.{is_plain}
use Rattle.scan.proofs.plain_bytes.Given as goal

abbrev pub ghost-passing : goal.ghost-passing
ghost-passing a = is_plain
