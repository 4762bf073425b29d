-- `column_types::how_byte` meets its contract.
use borrow.Author.Tests.{eq-eqb, ne_eqb}
use Rattle.column_types.specs.Types.{how_byte}
use Rattle.column_types.proofs.how_byte.Goals as goal

pub returns-then-p-eq0 : goal.returns-then-p-eq0
unfolding how_byte
returns-then-p-eq0 c = rw (how_byte, eq-eqb _ 0 c.if-p-eq0.true)

pub returns-then-kind-eq1 : goal.returns-then-kind-eq1
unfolding how_byte
returns-then-kind-eq1 c = rw (how_byte, ne_eqb _ 0 c.if-p-eq0.false, eq-eqb _ 1 c.if-kind-eq1.true)

pub returns : goal.returns
unfolding how_byte
returns c = rw (how_byte, ne_eqb _ 0 c.if-p-eq0.false, ne_eqb _ 1 c.if-kind-eq1.false)
