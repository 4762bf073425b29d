-- `operations::on_table::run_mutate` meets its contract.
use mathlib.Core.Path.{refl}
use native.Mathlib.Omega.{arith}
use Rattle.members.specs.Fields.{words_from, words_of}
use Rattle.operations.proofs.Slots.{slot_fine_lem}
use Rattle.operations.proofs.Doing.{enough, unless_within, mutate_ran}
use Rattle.operations.proofs.on_table.run_mutate.Goals as goal

pub match_rows-m-requires : goal.match_rows-m-requires
unfolding words_of words_from
match_rows-m-requires c = record { ready = c.requires; words = record { apart = refl; few = omega arith; long = omega arith; third = refl } }

pub mutate_rows-v-requires : goal.mutate_rows-v-requires
unfolding words_of words_from
mutate_rows-v-requires c =
    let few = c.requires.count in
    let long = enough c.requires in
    record { running = c.requires.running; slot_fine = slot_fine_lem c.match_rows-m.ensures.slots 3 (omega arith); columns_len_bound = c.table_columns-columns.ensures.few; n_le_most_rows = unless_within c.match_rows-m.result.fault c.args.call.count c.count_unless-e.ensures few long }

pub returns : goal.returns
unfolding words_of words_from
returns c =
    let few = c.requires.count in
    let long = enough c.requires in
    mutate_ran c.match_rows-m.ensures c.table_columns-columns.ensures few long c.earlier-f.ensures c.count_unless-e.ensures c.mutate_rows-v.ensures c.count-k.ensures
