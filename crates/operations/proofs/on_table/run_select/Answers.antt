-- `operations::on_table::run_select` meets its contract.
use mathlib.Core.Path.{refl, sym, ◌∙◌}
use native.Mathlib.Omega.{arith}
use Rattle.members.specs.Fields.{words_from, words_of}
use Rattle.operations.proofs.Slots.{slot_fine_lem}
use Rattle.operations.proofs.Doing.{effect_failed, front, slot_well_lem, select_fault, select_done}
use Rattle.operations.proofs.on_table.run_select.Goals as goal

pub match_rows-m-requires : goal.match_rows-m-requires
unfolding words_of words_from
match_rows-m-requires c = record { ready = c.requires.ready; words = record { apart = refl; few = omega arith; long = omega arith; third = refl } }

pub columns_at-c-requires : goal.columns_at-c-requires
unfolding words_of words_from
columns_at-c-requires c = record { says = c.requires.ready.running.says; p_value = slot_well_lem _ _ (slot_fine_lem c.match_rows-m.ensures.slots 3 (omega arith)); columns_len_bound = c.table_columns-columns.ensures.few }

pub slice_bounds-front-end : goal.slice_bounds-front-end
slice_bounds-front-end c = (front c.requires.ready).0

pub select_rows-e-requires : goal.select_rows-e-requires
select_rows-e-requires c = record { accepted = c.requires.ready.accepted; table_bound = c.requires.ready.here; rows_len_bound = ((front c.requires.ready).1, c.requires.result_most_bound) }

pub returns-then-is_fine : goal.returns-then-is_fine
unfolding words_of words_from
returns-then-is_fine c =
    select_done c.match_rows-m.ensures c.table_columns-columns.ensures c.columns_at-c.ensures c.earlier-f.ensures c.requires.ready.count (sym c.is_fine.ensures ∙ c.if-is_fine.true) c.select_rows-e.ensures

pub returns : goal.returns
unfolding words_of words_from
returns c =
    effect_failed c.earlier-f.result c.requires.ready.count (sym c.is_fine.ensures ∙ c.if-is_fine.false) (λ given _. select_fault c.match_rows-m.ensures c.table_columns-columns.ensures c.columns_at-c.ensures c.earlier-f.ensures given)
