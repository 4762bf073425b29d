-- `operations::on_table::run_insert` meets its contract.
use Prim.Native.Nat.{◌+◌}
use mathlib.Core.Path.{refl, sym, ◌∙◌}
use native.Mathlib.Omega.{arith}
use Rattle.members.specs.Fields.{words_from, words_of}
use Rattle.operations.proofs.Slots.{slot_fine_lem}
use Rattle.operations.proofs.Doing.{enough, Insertion, insertion}
use Rattle.operations.proofs.on_table.run_insert.Goals as goal

pub fields-slots-requires : goal.fields-slots-requires
unfolding words_of words_from
fields-slots-requires c = record { says = c.requires.running.says; at_value = c.requires.well; words_value = refl; words_len_bound = omega arith }

pub read_row-v-requires : goal.read_row-v-requires
unfolding words_of words_from
read_row-v-requires c = record { running = c.requires.running; slot_fine = slot_fine_lem c.fields-slots.ensures 2 (omega arith); columns_len_bound = c.table_columns-columns.ensures.few }

pub name_fault-m-requires : goal.name_fault-m-requires
name_fault-m-requires c = c.requires.running.size

pub add-requires : goal.add-requires
unfolding words_of words_from
add-requires c =
    let known : let a = c.args in Insertion a.text.now a.names.now a.schema.now a.call a.rows.now c.read_row-v.new.row c.earlier-f.result = let a = c.args in
    let few = c.requires.count in
    let long = enough c.requires in
    insertion a.text.now a.names.now a.schema.now a.call a.rows.now few long c.fields-slots.ensures c.table_columns-columns.ensures c.new_id-id.ensures c.new_row-row.ensures c.read_row-v.ensures c.listed-l.ensures c.room-r.ensures c.name_fault-m.ensures c.earlier-a.ensures c.earlier-b.ensures c.earlier-f.ensures in
    let x = (known).room (sym c.is_fine.ensures ∙ c.if-is_fine.true) in
    omega (arith, c.requires.room (c.args.call.count + 1) (omega arith) (omega arith))

pub overflow_add-result : goal.overflow_add-result
unfolding words_of words_from
overflow_add-result c =
    let known : let a = c.args in Insertion a.text.now a.names.now a.schema.now a.call a.rows.now c.read_row-v.new.row c.earlier-f.result = let a = c.args in
    let few = c.requires.count in
    let long = enough c.requires in
    insertion a.text.now a.names.now a.schema.now a.call a.rows.now few long c.fields-slots.ensures c.table_columns-columns.ensures c.new_id-id.ensures c.new_row-row.ensures c.read_row-v.ensures c.listed-l.ensures c.room-r.ensures c.name_fault-m.ensures c.earlier-a.ensures c.earlier-b.ensures c.earlier-f.ensures in
    let x = (known).room (sym c.is_fine.ensures ∙ c.if-is_fine.true) in
    omega arith

pub returns-then-is_fine : goal.returns-then-is_fine
unfolding words_of words_from
returns-then-is_fine c =
    let known : let a = c.args in Insertion a.text.now a.names.now a.schema.now a.call a.rows.now c.read_row-v.new.row c.earlier-f.result = let a = c.args in
    let few = c.requires.count in
    let long = enough c.requires in
    insertion a.text.now a.names.now a.schema.now a.call a.rows.now few long c.fields-slots.ensures c.table_columns-columns.ensures c.new_id-id.ensures c.new_row-row.ensures c.read_row-v.ensures c.listed-l.ensures c.room-r.ensures c.name_fault-m.ensures c.earlier-a.ensures c.earlier-b.ensures c.earlier-f.ensures in
    (known).done (sym c.is_fine.ensures ∙ c.if-is_fine.true) _ c.add.ensures

pub returns : goal.returns
unfolding words_of words_from
returns c =
    let known : let a = c.args in Insertion a.text.now a.names.now a.schema.now a.call a.rows.now c.read_row-v.new.row c.earlier-f.result = let a = c.args in
    let few = c.requires.count in
    let long = enough c.requires in
    insertion a.text.now a.names.now a.schema.now a.call a.rows.now few long c.fields-slots.ensures c.table_columns-columns.ensures c.new_id-id.ensures c.new_row-row.ensures c.read_row-v.ensures c.listed-l.ensures c.room-r.ensures c.name_fault-m.ensures c.earlier-a.ensures c.earlier-b.ensures c.earlier-f.ensures in
    (known).failed (sym c.is_fine.ensures ∙ c.if-is_fine.false)
