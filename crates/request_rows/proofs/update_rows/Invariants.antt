-- The loop of `request_rows::update_rows`.
use mathlib.Core.Path.{◌≡◌}
use lib.ListN.{length}
use Rattle.request_rows.proofs.Updates.{Marking}
use Rattle.request_rows.proofs.update_rows.Given as goal

abbrev pub invariant-loop-i : goal.invariant-loop-i
invariant-loop-i l = (length l.rows ≡ length l.initial.rows) × Marking l.k l.row l.given l.marks l.n l.initial.rows l.i l.rows
