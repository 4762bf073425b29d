-- The loop of `references::keep_named`.
use Rattle.model.specs.Schema.{Schema}
use Rattle.model.specs.Commit.{present}
use Rattle.inner.specs.Working.{working}
use Rattle.references.proofs.Keeping.{Sofar}
use Rattle.references.proofs.keep_named.Given as goal

abbrev pub invariant-loop-k : goal.invariant-loop-k
invariant-loop-k l = (s : Schema) → Sofar (present (working s l.n l.rows) l.table) l.atoms l.initial.out l.out l.k l.kept
