-- `record::known` meets its contract.
use mathlib.Core.Path.{sym, ap, ◌∙◌}
use mathlib.Core.Bool.{not}
use borrow.Author.Tests.{le-ltb}
use Rattle.record.proofs.Listings.{known_past, known_id}
use Rattle.record.proofs.known.Goals as goal

pub returns-else-table-tables : goal.returns-else-table-tables
returns-else-table-tables c = le-ltb c.args.table c.args.tables c.if-table-tables.false ∙ sym (known_past _ _ _ c.if-table-tables.false)

pub returns-then-table-tables : goal.returns-then-table-tables
returns-then-table-tables c =
    ap not c.is_nil.ensures ∙ sym (known_id c.args.tables c.args.table c.args.id.now c.if-table-tables.true c.requires (λ i. (c.type_inv.id i).fits))
