-- The loop of `changes::put_columns`.
use Prim.Native.Nat.{◌*◌, ◌≤◌}
use Rattle.model.specs.Catalog.{packed_tables}
use Rattle.inner.specs.Positions.{is_nothing}
use Rattle.inner.specs.Working.{table_in, id_in}
use Rattle.changes.specs.Walk.{old_cells, skips}
use Rattle.changes.proofs.Writing.{Along}
use Rattle.changes.proofs.Rows.{columns_left}
use Rattle.changes.proofs.put_columns.Given as goal

abbrev pub invariant-loop-c : goal.invariant-loop-c
invariant-loop-c l =
    let o = old_cells l.area l.old l.row in
    let s = packed_tables l.schema in
    (l.c ≤ l.w) × Along l.by.run l.by.number (columns_left (skips (is_nothing l.old)) s o l.row (table_in l.row) (id_in l.row) 0 0) (128 * l.c) l.initial.to l.initial.records l.to l.records (columns_left (skips (is_nothing l.old)) s o l.row (table_in l.row) (id_in l.row) 0 l.c)
