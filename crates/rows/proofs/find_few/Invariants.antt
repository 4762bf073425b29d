-- The loop of `rows::find_few`.
use mathlib.Core.Path.{◌≡◌}
use lib.ListN.{drop}
use Rattle.model.specs.Octets.{value}
use Rattle.model.specs.Schema.{Schema}
use Rattle.model.specs.Rows.{key_of}
use Rattle.inner.specs.Working.{working, place_from}
use Rattle.rows.proofs.find_few.Given as goal

abbrev pub invariant-loop-i : goal.invariant-loop-i
invariant-loop-i l = (s : Schema) → place_from 0 (key_of l.table (value l.id)) (working s l.n l.rows) ≡ place_from l.i (key_of l.table (value l.id)) (drop l.i (working s l.n l.rows))
