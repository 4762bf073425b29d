-- The loop of `json_writer::put_digits`.
use Rattle.std.proofs.Common.{◌+◌, ◌*◌, ◌≤◌, drop}
use Rattle.model.specs.Answers.{uuid_digits}
use Rattle.json_writer.proofs.Putting.{Due}
use Rattle.json_writer.proofs.put_digits.Given as goal

abbrev pub invariant-loop-k : goal.invariant-loop-k
invariant-loop-k l = (l.r ≤ l.at + 3 * l.k) × Due l.initial.out l.at (uuid_digits 0 l.id) l.out l.r (uuid_digits l.k (drop l.k l.id))
