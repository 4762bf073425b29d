-- `operations::on_table::run_update` meets its contract.
use mathlib.Core.Path.{refl, sym, ◌∙◌}
use native.Mathlib.Omega.{arith}
use Rattle.members.specs.Fields.{words_from, words_of}
use Rattle.operations.proofs.Slots.{slot_fine_lem}
use Rattle.operations.proofs.Doing.{enough, effect_failed, update_fault, update_done}
use Rattle.operations.proofs.on_table.run_update.Goals as goal

pub match_rows-m-requires : goal.match_rows-m-requires
unfolding words_of words_from
match_rows-m-requires c = record { ready = c.requires; words = record { apart = refl; few = omega arith; long = omega arith; third = refl } }

pub read_row-v-requires : goal.read_row-v-requires
unfolding words_of words_from
read_row-v-requires c = record { running = c.requires.running; slot_fine = slot_fine_lem c.match_rows-m.ensures.slots 3 (omega arith); columns_len_bound = c.table_columns-columns.ensures.few }

pub count-k-requires : goal.count-k-requires
count-k-requires c = c.requires.count

pub update_rows-requires : goal.update_rows-requires
update_rows-requires c =
    let few = c.requires.count in
    let long = enough c.requires in
    record { k_le_most_columns = c.table_columns-columns.ensures.few; n_le_most_rows = few; n_in_bounds = long }

pub returns-then-is_fine : goal.returns-then-is_fine
unfolding words_of words_from
returns-then-is_fine c at out =
    let few = c.requires.count in
    let long = enough c.requires in
    update_done c.match_rows-m.ensures c.table_columns-columns.ensures c.read_row-v.ensures c.earlier-f.ensures few long (sym c.is_fine.ensures ∙ c.if-is_fine.true) c.count-k.ensures c.update_rows.ensures

pub returns : goal.returns
unfolding words_of words_from
returns c at out =
    effect_failed c.earlier-f.result c.requires.count (sym c.is_fine.ensures ∙ c.if-is_fine.false) (λ given _. update_fault c.match_rows-m.ensures c.table_columns-columns.ensures c.read_row-v.ensures c.earlier-f.ensures given)
