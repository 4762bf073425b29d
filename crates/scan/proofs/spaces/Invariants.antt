-- The class of the bytes that `scan::spaces` passes.
use Rattle.model.specs.Scan.{is_space}
use Rattle.scan.proofs.spaces.Given as goal

abbrev pub ghost-passing : goal.ghost-passing
ghost-passing a = is_space
