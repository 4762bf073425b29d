-- The loop of `marks::narrow_all`.
use mathlib.Core.Path.{◌≡◌}
use mathlib.Core.Bool.{Bool}
use mathlib.Core.List.{List}
use Prim.Native.Nat.{ℕ}
use Rattle.marks.specs.Marks.{atoms_at, Sized}
use Rattle.marks.proofs.Marking.{Narrowing}
use Rattle.marks.proofs.narrow_all.Given as goal

abbrev pub invariant-loop-i : goal.invariant-loop-i
invariant-loop-i l = (p : List (List ℕ) → Bool) → ((row : List (List ℕ)) → Sized (atoms_at l.place row) → p row ≡ l.stays) → Narrowing p l.rows l.initial.marks l.marks l.i
