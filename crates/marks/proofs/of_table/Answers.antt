-- `marks::of_table` meets its contract.
use mathlib.Core.Path.{refl, ap}
use native.Mathlib.Omega.{arith}
use lib.Dec.{eqb}
use Rattle.marks.specs.Marks.{OfTable}
use Rattle.marks.proofs.Marking.{marking_on}
use Rattle.marks.proofs.of_table.Goals as goal

pub loop-i-init : goal.loop-i-init
loop-i-init c = record { size = refl; done = λ j h. absurd (omega arith) }

pub loop-i-preserved : goal.loop-i-preserved
loop-i-preserved c = marking_on c.loop-i.invariant (omega arith) (ap (eqb c.args.table) c.table_of.ensures)

pub returns : goal.returns
unfolding OfTable
returns c = λ j h. c.loop-i.invariant.done j (omega arith)
