-- The loop of `references::row_found`.
use mathlib.Core.Path.{◌≡◌}
use mathlib.Core.Bool.{Bool}
use mathlib.Core.List.{List}
use Prim.Native.Nat.{ℕ}
use Rattle.model.specs.Base.{all}
use Rattle.model.specs.Rows.{has}
use Rattle.model.specs.Areas.{row_from}
use Rattle.model.specs.Catalog.{packed_tables}
use Rattle.inner.specs.Working.{working}
use Rattle.references.specs.Links.{pick, referred}
use Rattle.references.proofs.Links.{rest_of}
use Rattle.references.proofs.row_found.Given as goal

-- there is a row under a key
abbrev pub found : List (List ℕ) → ℕ → List (List (List ℕ)) → ℕ → Bool
found schema n rows k = has k (working (packed_tables schema) n rows)

abbrev pub invariant-loop-c : goal.invariant-loop-c
invariant-loop-c l = referred (packed_tables l.schema) l.how (working (packed_tables l.schema) l.n l.rows) (row_from (packed_tables l.schema) l.row) ≡ all (found l.schema l.n l.rows) (rest_of (pick l.how) l.schema l.row l.c)
