-- `column_types::base_byte` meets its contract.
use borrow.Author.Tests.{eq-eqb, ne_eqb}
use Rattle.column_types.specs.Types.{base_byte}
use Rattle.column_types.proofs.base_byte.Goals as goal

pub returns-then-k-eq0 : goal.returns-then-k-eq0
unfolding base_byte
returns-then-k-eq0 c = rw (base_byte, eq-eqb _ 0 c.if-k-eq0.true)

pub returns-then-k-eq1 : goal.returns-then-k-eq1
unfolding base_byte
returns-then-k-eq1 c = rw (base_byte, ne_eqb _ 0 c.if-k-eq0.false, eq-eqb _ 1 c.if-k-eq1.true)

pub returns-then-k-eq2 : goal.returns-then-k-eq2
unfolding base_byte
returns-then-k-eq2 c = rw (base_byte, ne_eqb _ 0 c.if-k-eq0.false, ne_eqb _ 1 c.if-k-eq1.false, eq-eqb _ 2 c.if-k-eq2.true)

pub returns : goal.returns
unfolding base_byte
returns c = rw (base_byte, ne_eqb _ 0 c.if-k-eq0.false, ne_eqb _ 1 c.if-k-eq1.false, ne_eqb _ 2 c.if-k-eq2.false)
