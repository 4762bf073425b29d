-- The loop of `marks::delete_rows`.
use mathlib.Core.Path.{◌≡◌}
use mathlib.Core.Bool.{not}
use mathlib.Core.List.{List}
use Prim.Native.Nat.{ℕ}
use lib.ListN.{take}
use Rattle.model.specs.Base.{keep}
use Rattle.model.specs.Schema.{Column, Schema, columns_of}
use Rattle.model.specs.Rows.{Row}
use Rattle.model.specs.Conditions.{Test, matches}
use Rattle.inner.specs.Working.{working, Tidy}
use Rattle.marks.specs.Marks.{MarkedRows}
use Rattle.marks.proofs.Picking.{Partly}
use Rattle.marks.proofs.delete_rows.Given as goal

abbrev pub invariant-loop-i : goal.invariant-loop-i
invariant-loop-i l = Partly l.initial.rows l.rows l.i l.kept × ((s : Schema) → Tidy s (take l.n l.initial.rows) → Tidy s (take l.kept l.rows)) × ((cs : List Column) (table : ℕ) (ts : List Test) → MarkedRows cs ts table l.n l.initial.rows l.marks → (s : Schema) → columns_of s table ≡ cs → working s l.kept l.rows ≡ keep (λ (q : Row). not (matches table ts q)) (working s l.i l.initial.rows))
