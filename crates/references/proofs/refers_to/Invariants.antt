-- The loop of `references::refers_to`.
use mathlib.Core.Path.{◌≡◌}
use lib.Dec.{eqb}
use Rattle.model.specs.Base.{any}
use Rattle.model.specs.Commit.{strong_of}
use Rattle.model.specs.Areas.{row_from}
use Rattle.model.specs.Catalog.{packed_tables}
use Rattle.inner.specs.Working.{key_in}
use Rattle.references.specs.Links.{pick}
use Rattle.references.proofs.Links.{rest_of}
use Rattle.references.proofs.refers_to.Given as goal

abbrev pub invariant-loop-c : goal.invariant-loop-c
invariant-loop-c l = any (eqb (key_in l.other)) (strong_of (packed_tables l.schema) (row_from (packed_tables l.schema) l.row)) ≡ any (eqb (key_in l.other)) (rest_of (pick 1) l.schema l.row l.c)
