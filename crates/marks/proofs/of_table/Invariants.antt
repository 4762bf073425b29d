-- The loop of `marks::of_table`.
use lib.Dec.{eqb}
use Rattle.inner.specs.Working.{table_in}
use Rattle.marks.proofs.Marking.{Marking}
use Rattle.marks.proofs.of_table.Given as goal

abbrev pub invariant-loop-i : goal.invariant-loop-i
invariant-loop-i l = Marking (λ row. eqb l.table (table_in row)) l.rows l.marks l.i
