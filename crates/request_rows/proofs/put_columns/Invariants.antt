-- The loop of `request_rows::put_columns`.
use Rattle.std.specs.Prelude.{Option}
use mathlib.Core.Path.{◌≡◌}
use mathlib.Core.List.{List}
use lib.ListN.{length}
use Rattle.model.specs.Value.{Value}
use Rattle.request_rows.specs.Assigned.{Template}
use Rattle.request_rows.proofs.Rows.{Assigning}
use Rattle.request_rows.proofs.put_columns.Given as goal

abbrev pub invariant-loop-c : goal.invariant-loop-c
invariant-loop-c l = (os : List (Option Value)) → length os ≡ l.k → Template os l.row l.given → Assigning os l.initial.to l.c l.to
