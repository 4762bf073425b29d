-- The loop of `selection::put_rows`.
use mathlib.Core.Path.{◌≡◌}
use mathlib.Core.Bool.{true}
use Prim.Native.Nat.{◌+◌, ◌*◌, ◌-◌, ◌≤◌}
use lib.ListN.{length}
use Rattle.json_writer.specs.Texts.{joined}
use Rattle.json_writer.proofs.Putting.{Due}
use Rattle.catalog.specs.Entries.{columns_at}
use Rattle.selection.specs.Picks.{picked_from}
use Rattle.selection.proofs.put_rows.Given as goal

abbrev pub invariant-loop-i : goal.invariant-loop-i
invariant-loop-i l =
    (l.i ≤ length l.rows) × ((length l.out ≡ length l.initial.out) × ((l.r ≤ l.at + 5386 * l.i) × Due l.initial.out l.at (joined true (picked_from l.schema l.table l.flags (length (columns_at l.schema l.table)) l.marks l.rows 0 (length l.rows))) l.out l.r (joined l.first (picked_from l.schema l.table l.flags l.k l.marks l.rows l.i (length l.rows - l.i)))))
