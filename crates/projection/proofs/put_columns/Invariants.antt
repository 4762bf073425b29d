-- The loop of `projection::put_columns`.
use Rattle.std.proofs.Common.{◌+◌, ◌*◌, ◌-◌, ◌≤◌}
use Rattle.json_writer.specs.Texts.{joined}
use Rattle.json_writer.proofs.Putting.{Due}
use Rattle.projection.specs.Shown.{shown_from}
use Rattle.projection.proofs.put_columns.Given as goal

abbrev pub invariant-loop-c : goal.invariant-loop-c
invariant-loop-c l = (l.r ≤ l.at + 886 * l.c) × Due l.initial.out l.at (joined l.none (shown_from l.schema l.from l.row l.shown 0 l.n)) l.out l.r (joined l.first (shown_from l.schema l.from l.row l.shown l.c (l.n - l.c)))
