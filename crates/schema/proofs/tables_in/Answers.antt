-- `schema::tables_in` meets its contract.
use borrow.Author.Tests.{ne_eqb}
use Rattle.schema.proofs.Members.{no_tables, some_tables}
use Rattle.schema.proofs.tables_in.Goals as goal

pub returns-then-p-eq0 : goal.returns-then-p-eq0
returns-then-p-eq0 c =
    no_tables c.args.text.now c.args.cells.now c.if-p-eq0.true

pub read_tables-requires : goal.read_tables-requires
read_tables-requires c = record { says = c.requires.says; at_value = c.requires.p_value (ne_eqb c.args.p 0 c.if-p-eq0.false); cells_len = c.requires.cells_len }

pub returns : goal.returns
returns c =
    some_tables c.args.text.now c.if-p-eq0.false c.read_tables.ensures
