-- The loop of `columns::put_columns`.
use mathlib.Core.List.{map}
use Rattle.model.specs.Catalog.{entry_name}
use Rattle.columns.proofs.Listing.{Putting}
use Rattle.columns.proofs.put_columns.Given as goal

abbrev pub invariant-loop-i : goal.invariant-loop-i
invariant-loop-i l = Putting l.text (map entry_name l.tables) l.n l.places l.initial.cells l.cells l.good l.i
