-- `operations::operation::operation_at` meets its contract.
use Rattle.inner.specs.Positions.{tree_at}
use Rattle.model.specs.Members.{members_in}
use Rattle.members.specs.Fields.{words_from, words_of}
use Rattle.operations.proofs.Choosing.{operation_there, operation_missing}
use Rattle.operations.proofs.operation.operation_at.Goals as goal

pub returns-in_default : goal.returns-in_default
returns-in_default c =
    let a = c.args in
    operation_missing a.text.now (members_in (tree_at a.text.now a.op)) c.find-f.ensures c.in_default.is

pub returns : goal.returns
unfolding words_of words_from
returns c =
    let a = c.args in
    operation_there a.text.now (members_in (tree_at a.text.now a.op)) c.find-f.ensures c.in-Some.is c.choose-k.ensures c.operation_of.ensures
