-- The loop of `marks::narrow`.
use Rattle.marks.specs.Marks.{met, atoms_at}
use Rattle.marks.proofs.Marking.{Narrowing}
use Rattle.marks.proofs.narrow.Given as goal

abbrev pub invariant-loop-i : goal.invariant-loop-i
invariant-loop-i l = Narrowing (λ row. met l.f (atoms_at l.place row) l.l) l.rows l.initial.marks l.marks l.i
