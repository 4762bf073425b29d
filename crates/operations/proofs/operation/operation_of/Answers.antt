-- `operations::operation::operation_of` meets its contract.
use borrow.Author.Tests.{eq-eqb, ne_eqb}
use Rattle.operations.specs.Performed.{operation_by}
use Rattle.operations.proofs.operation.operation_of.Goals as goal

pub returns-then-k-eq0 : goal.returns-then-k-eq0
unfolding operation_by
returns-then-k-eq0 c = rw (operation_by, eq-eqb _ 0 c.if-k-eq0.true)

pub returns-then-k-eq1 : goal.returns-then-k-eq1
unfolding operation_by
returns-then-k-eq1 c = rw (operation_by, ne_eqb _ 0 c.if-k-eq0.false, eq-eqb _ 1 c.if-k-eq1.true)

pub returns-then-k-eq2 : goal.returns-then-k-eq2
unfolding operation_by
returns-then-k-eq2 c = rw (operation_by, ne_eqb _ 0 c.if-k-eq0.false, ne_eqb _ 1 c.if-k-eq1.false, eq-eqb _ 2 c.if-k-eq2.true)

pub returns-then-k-eq3 : goal.returns-then-k-eq3
unfolding operation_by
returns-then-k-eq3 c = rw (operation_by, ne_eqb _ 0 c.if-k-eq0.false, ne_eqb _ 1 c.if-k-eq1.false, ne_eqb _ 2 c.if-k-eq2.false, eq-eqb _ 3 c.if-k-eq3.true)

pub returns-then-k-eq4 : goal.returns-then-k-eq4
unfolding operation_by
returns-then-k-eq4 c = rw (operation_by, ne_eqb _ 0 c.if-k-eq0.false, ne_eqb _ 1 c.if-k-eq1.false, ne_eqb _ 2 c.if-k-eq2.false, ne_eqb _ 3 c.if-k-eq3.false, eq-eqb _ 4 c.if-k-eq4.true)

pub returns-then-k-eq5 : goal.returns-then-k-eq5
unfolding operation_by
returns-then-k-eq5 c = rw (operation_by, ne_eqb _ 0 c.if-k-eq0.false, ne_eqb _ 1 c.if-k-eq1.false, ne_eqb _ 2 c.if-k-eq2.false, ne_eqb _ 3 c.if-k-eq3.false, ne_eqb _ 4 c.if-k-eq4.false, eq-eqb _ 5 c.if-k-eq5.true)

pub returns-then-k-eq6 : goal.returns-then-k-eq6
unfolding operation_by
returns-then-k-eq6 c = rw (operation_by, ne_eqb _ 0 c.if-k-eq0.false, ne_eqb _ 1 c.if-k-eq1.false, ne_eqb _ 2 c.if-k-eq2.false, ne_eqb _ 3 c.if-k-eq3.false, ne_eqb _ 4 c.if-k-eq4.false, ne_eqb _ 5 c.if-k-eq5.false, eq-eqb _ 6 c.if-k-eq6.true)

pub returns : goal.returns
unfolding operation_by
returns c = rw (operation_by, ne_eqb _ 0 c.if-k-eq0.false, ne_eqb _ 1 c.if-k-eq1.false, ne_eqb _ 2 c.if-k-eq2.false, ne_eqb _ 3 c.if-k-eq3.false, ne_eqb _ 4 c.if-k-eq4.false, ne_eqb _ 5 c.if-k-eq5.false, ne_eqb _ 6 c.if-k-eq6.false)
