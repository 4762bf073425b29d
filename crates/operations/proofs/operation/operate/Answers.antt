-- `operations::operation::operate` meets its contract.
use mathlib.Core.Path.{ap}
use Rattle.operations.specs.Performed.{is_on_table}
use Rattle.operations.proofs.Choosing.{ready, unknown_done, effect_as}
use Rattle.operations.proofs.operation.operate.Goals as goal

pub run_insert-requires : goal.run_insert-requires
run_insert-requires c = ready c.requires.begun (ap is_on_table c.in-Insert.is)

pub run_select-requires : goal.run_select-requires
run_select-requires c = record { ready = ready c.requires.begun (ap is_on_table c.in-Select.is); result_most_bound = c.requires.result_most_bound }

pub run_update-requires : goal.run_update-requires
run_update-requires c = ready c.requires.begun (ap is_on_table c.in-Update.is)

pub run_mutate-requires : goal.run_mutate-requires
run_mutate-requires c = ready c.requires.begun (ap is_on_table c.in-Mutate.is)

pub run_delete-requires : goal.run_delete-requires
run_delete-requires c = ready c.requires.begun (ap is_on_table c.in-Delete.is)

pub returns-in-Insert : goal.returns-in-Insert
returns-in-Insert c = effect_as c.in-Insert.is (c.run_insert.ensures _ _)

pub returns-in-Select : goal.returns-in-Select
returns-in-Select c = effect_as c.in-Select.is c.run_select.ensures

pub returns-in-Update : goal.returns-in-Update
returns-in-Update c = effect_as c.in-Update.is (c.run_update.ensures _ _)

pub returns-in-Mutate : goal.returns-in-Mutate
returns-in-Mutate c = effect_as c.in-Mutate.is (c.run_mutate.ensures _ _)

pub returns-in-Delete : goal.returns-in-Delete
returns-in-Delete c = effect_as c.in-Delete.is (c.run_delete.ensures _ _)

pub returns-in-Comment : goal.returns-in-Comment
returns-in-Comment c = effect_as c.in-Comment.is (c.run_comment.ensures _ _ _ _ _)

pub returns-in-Abort : goal.returns-in-Abort
returns-in-Abort c = effect_as c.in-Abort.is (c.run_abort.ensures _ _ _ _ _)

pub returns-in-Unknown : goal.returns-in-Unknown
returns-in-Unknown c = effect_as c.in-Unknown.is (unknown_done c.requires.begun)
