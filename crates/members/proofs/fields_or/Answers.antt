-- `members::fields_or` meets its contract.
use mathlib.Core.Path.{sym, ap, ◌∙◌}
use Rattle.model.specs.Nav.{is_object}
use Rattle.members.specs.Fields.{words_of}
use Rattle.members.proofs.Kept.{slots_object, slots_bare}
use Rattle.members.proofs.fields_or.Goals as goal

pub returns-then-o : goal.returns-then-o
returns-then-o c =
    slots_object
    c.args.text.now
    (words_of c.args.words.now)
    c.args.at
    (sym (c.is_kind-o.ensures ∙ ap is_object c.kind_at-k.ensures) ∙ c.if-o.true)
    c.fields.ensures

pub returns : goal.returns
returns c =
    slots_bare
    c.args.text.now
    (words_of c.args.words.now)
    c.args.at
    c.requires.words_value
    c.requires.words_len_bound
    c.requires.nonzero
    c.requires.at_nonzero
    c.requires.at_value
    (sym (c.is_kind-o.ensures ∙ ap is_object c.kind_at-k.ensures) ∙ c.if-o.false)
