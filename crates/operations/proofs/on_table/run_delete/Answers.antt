-- `operations::on_table::run_delete` meets its contract.
use mathlib.Core.Path.{refl, sym, ◌∙◌}
use native.Mathlib.Omega.{arith}
use Rattle.members.specs.Fields.{words_from, words_of}
use Rattle.operations.proofs.Doing.{enough, effect_failed, delete_fault_lem, delete_done}
use Rattle.operations.proofs.on_table.run_delete.Goals as goal

pub match_rows-m-requires : goal.match_rows-m-requires
unfolding words_of words_from
match_rows-m-requires c = record { ready = c.requires; words = record { apart = refl; few = omega arith; long = omega arith; third = refl } }

pub delete_rows-left-requires : goal.delete_rows-left-requires
delete_rows-left-requires c =
    (c.requires.count, enough c.requires)

pub returns-then-is_fine : goal.returns-then-is_fine
unfolding words_of words_from
returns-then-is_fine c at out =
    let few = c.requires.count in
    let long = enough c.requires in
    delete_done c.match_rows-m.ensures few long (sym c.is_fine.ensures ∙ c.if-is_fine.true) c.count-k.ensures c.delete_rows-left.ensures

pub returns : goal.returns
unfolding words_of words_from
returns c at out =
    effect_failed c.match_rows-m.result.fault c.requires.count (sym c.is_fine.ensures ∙ c.if-is_fine.false) (λ given _. delete_fault_lem c.match_rows-m.ensures given)
