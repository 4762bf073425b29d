-- The loop of `operations::put_nulls`.
use Prim.Native.Nat.{◌+◌, ◌*◌, ◌≤◌}
use mathlib.Core.Path.{◌≡◌}
use mathlib.Core.Bool.{true, false}
use lib.ListN.{length}
use Rattle.inner.specs.Positions.{items_from, items_fine, left}
use Rattle.json_writer.specs.Texts.{joined}
use Rattle.json_writer.proofs.Putting.{Due}
use Rattle.operations.specs.Running.{nulls_from}
use Rattle.operations.proofs.put_nulls.Given as goal

abbrev pub invariant-loop-h : goal.invariant-loop-h
invariant-loop-h l =
    (length l.answer ≡ length l.initial.answer) × (items_fine l.text l.h ≡ true) × (l.e + 5 * length (items_from l.text l.h) ≤ l.at + 5 * length (items_from l.text l.initial.h)) × Due l.initial.answer l.at (joined false (nulls_from l.text l.initial.h)) l.answer l.e (joined false (nulls_from l.text l.h))

abbrev pub decreases-loop-h : goal.decreases-loop-h
decreases-loop-h l = left l.text l.h
