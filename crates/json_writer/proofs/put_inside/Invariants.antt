-- The loop of `json_writer::put_inside`.
use Rattle.std.proofs.Common.{◌+◌, ◌*◌, ◌≤◌, drop}
use Rattle.json_writer.specs.Texts.{inside_text}
use Rattle.json_writer.proofs.Putting.{Due}
use Rattle.json_writer.proofs.put_inside.Given as goal

abbrev pub invariant-loop-b : goal.invariant-loop-b
invariant-loop-b l = (l.r ≤ l.at + 6 * l.b-index) × Due l.initial.out l.at (inside_text l.text) l.out l.r (inside_text (drop l.b-index l.text))
