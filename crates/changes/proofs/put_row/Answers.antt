-- `changes::put_row` meets its contract.
use Rattle.std.specs.Prelude.{Option, ℕ}
use mathlib.Core.Path.{sym, ap, ◌∙◌}
use mathlib.Core.List.{[], ◌∷◌, ◌++◌}
use native.Mathlib.Omega.{arith}
use Rattle.model.specs.Octets.{value}
use Rattle.model.specs.Records.{born}
use Rattle.model.specs.Catalog.{packed_tables}
use Rattle.inner.specs.Working.{table_in, id_in}
use Rattle.changes.specs.Walk.{row_most}
use Rattle.changes.proofs.Writing.{recorded_is, recorded_then}
use Rattle.changes.proofs.Rows.{at_old, nothing_old, columns_over, row_new, old_within, row_changed}
use Rattle.changes.proofs.put_row.Goals as goal

pub put_columns-requires : goal.put_columns-requires
put_columns-requires c =
    let a = c.args in
    let r = c.requires.room in
    let w = old_within (packed_tables a.schema.now) a.area.now a.m a.row.now _ (sym c.requires.value ∙ c.in-Some.is) in
    record { accepted = c.requires.accepted; old = at_old a.area.now a.old _ c.in-Some.is c.requires.store_bytes_in_bounds.0 (omega (arith, w, c.requires.store_bytes_in_bounds.1)); room = record { few = r.few; room = omega (arith, r.room); enough = r.enough } }

pub put_columns-requires-in-None : goal.put_columns-requires-in-None
put_columns-requires-in-None c =
    let r = c.requires.room in
    record { accepted = c.requires.accepted; old = nothing_old c.args.area.now c.args.old c.in-None.is; room = record { few = c.put_born-to.ensures.few; room = omega (arith, c.put_born-to.ensures.short, r.room); enough = omega (arith, c.put_born-to.auto.records, r.enough) } }

pub returns-in-Some : goal.returns-in-Some
returns-in-Some c =
    let a = c.args in
    let S = packed_tables a.schema.now in
    recorded_is c.put_columns.ensures (ap (columns_over S a.area.now a.m a.row.now) c.in-Some.is ∙ row_changed S a.area.now a.m a.row.now _ (sym c.requires.value ∙ c.in-Some.is)) row_most (omega arith)

pub returns-in-None : goal.returns-in-None
unfolding id_in
returns-in-None c =
    let a = c.args in
    let S = packed_tables a.schema.now in
    let first = recorded_is c.put_born-to.ensures (λ j. born (c.table_of-table.ensures j) (value (c.id_of.ensures.bytes j)) ∷ []) 26 (omega arith) in
    recorded_is (recorded_then first c.put_columns-in-None.ensures)
    (ap (λ (o : Option ℕ). (born (table_in a.row.now) (id_in a.row.now) ∷ []) ++ columns_over S a.area.now a.m a.row.now o) c.in-None.is ∙ row_new S a.area.now a.m a.row.now (sym c.requires.value ∙ c.in-None.is)) row_most (omega arith)
