-- `column_types::table_in` meets its contract.
use Rattle.names.specs.Names.{name_cell}
use mathlib.Core.Path.{sym, ap, ◌∙◌}
use borrow.Author.Tests.{eq-eqb, ne_eqb}
use Rattle.catalog.specs.Entries.{entry_named}
use Rattle.model.specs.Value.{text_of}
use Rattle.column_types.specs.Types.{table_in}
use Rattle.members.proofs.Slotted.{at_some}
use Rattle.column_types.proofs.table_in.Goals as goal

pub returns-then-p-eq0 : goal.returns-then-p-eq0
unfolding table_in
returns-then-p-eq0 c = rw (table_in, eq-eqb _ 0 c.if-p-eq0.true)

pub returns : goal.returns
unfolding table_in
returns c =
    let n = c.name_at-name.ensures ∙ ap name_cell (sym (at_some c.args.text.now c.if-p-eq0.false)) in
    rw
    (table_in, ne_eqb c.args.p 0 c.if-p-eq0.false)
    (c.named.ensures ∙ ap (entry_named c.args.tables.now) (c.text_of-t.ensures ∙ ap text_of n))
