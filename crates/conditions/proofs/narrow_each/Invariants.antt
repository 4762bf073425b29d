-- The loop of `conditions::narrow_each`.
use mathlib.Core.Path.{◌≡◌}
use mathlib.Core.Bool.{true}
use mathlib.Core.List.{List}
use Prim.Native.Nat.{ℕ}
use Rattle.inner.specs.Positions.{left}
use Rattle.model.specs.Catalog.{base_numbered}
use Rattle.elements.specs.Elements.{elements_from, elements_fine}
use Rattle.uuids.specs.Named.{names_at}
use Rattle.element_atoms.specs.Atoms.{atoms_of}
use Rattle.marks.specs.Marks.{every, atoms_at}
use Rattle.marks.proofs.Meeting.{Left}
use Rattle.conditions.proofs.narrow_each.Given as goal

abbrev pub invariant-loop-g : goal.invariant-loop-g
invariant-loop-g l = (elements_fine l.text l.set l.g ≡ true) × Left (λ (row : List (List ℕ)). every l.stored (atoms_at l.test.place row) (atoms_of (names_at l.text l.names) (base_numbered l.test.kind) (elements_from l.text l.set l.initial.g))) (λ (row : List (List ℕ)). every l.stored (atoms_at l.test.place row) (atoms_of (names_at l.text l.names) (base_numbered l.test.kind) (elements_from l.text l.set l.g))) l.rows l.initial.marks l.marks

abbrev pub decreases-loop-g : goal.decreases-loop-g
decreases-loop-g l = left l.text l.g
