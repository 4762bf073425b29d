-- The loop of `area::read_rows`.
use mathlib.Core.Path.{◌≡◌}
use mathlib.Core.List.{[]}
use lib.ListN.{drop}
use Rattle.area.specs.Layout.{rows_in}
use Rattle.catalog.proofs.Copied.{copied}
use Rattle.area.proofs.read_rows.Given as goal

abbrev pub invariant-loop-i : goal.invariant-loop-i
invariant-loop-i l = l.rows ≡ copied l.initial.rows (rows_in l.n (drop l.at l.area)) [] l.i
