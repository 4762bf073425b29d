-- `operations::on_table::listed` meets its contract.
use borrow.Author.Tests.{eq-eqb, ne_eqb}
use Rattle.operations.proofs.Doing.{listed_is}
use Rattle.operations.proofs.on_table.listed.Goals as goal

pub returns-then-p-eq0 : goal.returns-then-p-eq0
returns-then-p-eq0 c = listed_is c.args.p (eq-eqb c.args.p 0 c.if-p-eq0.true)

pub returns : goal.returns
returns c = listed_is c.args.p (ne_eqb c.args.p 0 c.if-p-eq0.false)
