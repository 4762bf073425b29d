-- `members::choice_in` meets its contract.
use mathlib.Core.Path.{sym, ap, ◌∙◌}
use Rattle.members.proofs.Slotted.{at_some, choice_none}
use Rattle.members.specs.Fields.{words_of, choice}
use Rattle.members.proofs.choice_in.Goals as goal

pub returns-then-p-eq0 : goal.returns-then-p-eq0
returns-then-p-eq0 c =
    choice_none c.args.text.now (words_of c.args.words.now) c.if-p-eq0.true

pub returns : goal.returns
returns c =
    c.choose.ensures ∙ ap (choice (words_of c.args.words.now)) (sym (at_some c.args.text.now c.if-p-eq0.false))
