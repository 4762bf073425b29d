-- `operations::operation::run_abort` meets its contract.
use mathlib.Core.Path.{refl}
use native.Mathlib.Omega.{arith}
use Rattle.members.specs.Fields.{words_from, words_of}
use Rattle.operations.proofs.Choosing.{abort_done, abort_extra}
use Rattle.operations.proofs.operation.run_abort.Goals as goal

pub fields-slots-requires : goal.fields-slots-requires
unfolding words_of words_from
fields-slots-requires c = record { says = c.requires.says; at_value = c.requires.at_value; words_value = refl; words_len_bound = omega arith }

pub returns-then-slots-eq0 : goal.returns-then-slots-eq0
unfolding words_of words_from
returns-then-slots-eq0 c n s r =
    abort_done c.args.text.now c.args.call c.fields-slots.ensures c.requires.count_le_most_rows n s r c.if-slots-eq0.true

pub returns : goal.returns
unfolding words_of words_from
returns c n s r =
    abort_extra c.args.text.now c.args.call c.fields-slots.ensures c.requires.count_le_most_rows n s r c.if-slots-eq0.false
