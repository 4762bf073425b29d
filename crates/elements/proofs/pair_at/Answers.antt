-- `elements::pair_at` meets its contract.
use mathlib.Core.Path.{sym, ◌∙◌}
use Rattle.elements.proofs.Walk.{no_first, no_second, no_third, some_third}
use Rattle.elements.proofs.pair_at.Goals as goal

pub returns-in_default : goal.returns-in_default
returns-in_default c =
    no_first c.args.text.now c.args.at c.requires.at_value (sym c.first-f.ensures ∙ c.in_default.is)

pub returns-in_default-g : goal.returns-in_default-g
returns-in_default-g c =
    no_second c.args.text.now c.args.at c.requires.at_value (sym c.first-f.ensures ∙ c.in-Some.is) (sym c.next_item-g.ensures ∙ c.in_default-g.is)

pub returns-in-Some-h : goal.returns-in-Some-h
returns-in-Some-h c =
    some_third c.args.text.now c.args.at c.requires.at_value (sym c.first-f.ensures ∙ c.in-Some.is) (sym c.next_item-g.ensures ∙ c.in-Some-g.is) (sym c.next_item-h.ensures ∙ c.in-Some-h.is)

pub returns-in-None : goal.returns-in-None
returns-in-None c =
    no_third c.args.text.now c.args.at c.requires.at_value (sym c.first-f.ensures ∙ c.in-Some.is) (sym c.next_item-g.ensures ∙ c.in-Some-g.is) (sym c.next_item-h.ensures ∙ c.in-None.is)
