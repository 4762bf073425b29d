-- The loop of `atom::is_utf8`.
use Rattle.std.proofs.Common.{◌≡◌, [], drop}
use Rattle.model.specs.Value.{utf8_from}
use Rattle.atom.specs.Bytes.{due_ranges}
use Rattle.atom.proofs.is_utf8.Given as goal

abbrev pub invariant-loop-b : goal.invariant-loop-b
invariant-loop-b l = utf8_from [] l.t ≡ utf8_from (due_ranges l.due l.low l.high) (drop l.b-index l.t)
