-- `operations::on_table::match_rows` meets its contract.
use Rattle.operations.proofs.Slots.{slot_fine_lem}
use Rattle.operations.proofs.Doing.{front, matching}
use Rattle.operations.proofs.on_table.match_rows.Goals as goal

pub fields-slots-requires : goal.fields-slots-requires
fields-slots-requires c = record { says = c.requires.ready.running.says; at_value = c.requires.ready.well; words_value = c.requires.words.apart; words_len_bound = c.requires.words.few }

pub slice_bounds-front-end : goal.slice_bounds-front-end
slice_bounds-front-end c = (front c.requires.ready).0

pub of_table-marks-requires : goal.of_table-marks-requires
of_table-marks-requires c = (front c.requires.ready).1

pub read_where-w-requires : goal.read_where-w-requires
read_where-w-requires c = record { running = c.requires.ready.running; slot_fine = slot_fine_lem c.fields-slots.ensures 2 c.requires.words.long; columns_len_bound = (c.table_columns-columns.ensures.few, (front c.requires.ready).1) }

pub returns : goal.returns
returns c =
    let a = c.args in
    matching a.text.now a.names.now a.schema.now a.call c.fields-slots.ensures c.requires.words c.table_columns-columns.ensures c.listed-l.ensures c.of_table-marks.ensures c.read_where-w.ensures c.earlier-f.ensures
