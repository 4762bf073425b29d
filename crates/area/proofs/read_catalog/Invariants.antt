-- The loop of `area::read_catalog`.
use mathlib.Core.Path.{◌≡◌}
use mathlib.Core.List.{[]}
use Rattle.model.specs.Areas.{entries_in}
use Rattle.catalog.proofs.Copied.{copied}
use Rattle.area.proofs.read_catalog.Given as goal

abbrev pub invariant-loop-j : goal.invariant-loop-j
invariant-loop-j l = l.catalog ≡ copied l.initial.catalog (entries_in l.area) [] l.j
