-- `operations::operation::run_comment` meets its contract.
use mathlib.Core.Path.{refl, ap, ◌∙◌}
use native.Mathlib.Omega.{arith}
use Rattle.model.specs.Nav.{is_text}
use Rattle.members.specs.Fields.{words_from, words_of}
use Rattle.operations.proofs.Choosing.{comment_done, comment_bare, comment_extra}
use Rattle.operations.proofs.operation.run_comment.Goals as goal

pub fields-slots-requires : goal.fields-slots-requires
unfolding words_of words_from
fields-slots-requires c = record { says = c.requires.says; at_value = c.requires.at_value; words_value = refl; words_len_bound = omega arith }

pub returns-then-t : goal.returns-then-t
unfolding words_of words_from
returns-then-t c n s r =
    comment_done c.args.text.now c.args.call c.fields-slots.ensures (c.is_kind-t.ensures ∙ ap is_text c.kind_in-k.ensures) c.requires.count_le_most_rows n s r c.if-slots-eq0.true c.if-t.true

pub returns-else-t : goal.returns-else-t
unfolding words_of words_from
returns-else-t c n s r =
    comment_bare c.args.text.now c.args.call c.fields-slots.ensures (c.is_kind-t.ensures ∙ ap is_text c.kind_in-k.ensures) c.requires.count_le_most_rows n s r c.if-t.false

pub returns-else-slots-eq0 : goal.returns-else-slots-eq0
unfolding words_of words_from
returns-else-slots-eq0 c n s r =
    comment_extra c.args.text.now c.args.call c.fields-slots.ensures (c.is_kind-t.ensures ∙ ap is_text c.kind_in-k.ensures) c.requires.count_le_most_rows n s r c.if-slots-eq0.false
