-- `conditions::lookup::triple_at` meets its contract.
use mathlib.Core.Path.{sym, ◌∙◌}
use Rattle.conditions.proofs.Items.{no_first, no_second, no_third, some_fourth, no_fourth}
use Rattle.conditions.proofs.lookup.triple_at.Goals as goal

pub returns-in_default : goal.returns-in_default
returns-in_default c =
    no_first c.args.text.now c.args.at c.requires.at_value (sym c.first-f.ensures ∙ c.in_default.is)

pub returns-in_default-g : goal.returns-in_default-g
returns-in_default-g c =
    no_second c.args.text.now c.args.at c.requires.at_value (sym c.first-f.ensures ∙ c.in-Some.is) (sym c.next_item-g.ensures ∙ c.in_default-g.is)

pub returns-in_default-h : goal.returns-in_default-h
returns-in_default-h c =
    no_third c.args.text.now c.args.at c.requires.at_value (sym c.first-f.ensures ∙ c.in-Some.is) (sym c.next_item-g.ensures ∙ c.in-Some-g.is) (sym c.next_item-h.ensures ∙ c.in_default-h.is)

pub returns-in-Some-l : goal.returns-in-Some-l
returns-in-Some-l c =
    some_fourth c.args.text.now c.args.at c.requires.at_value (sym c.first-f.ensures ∙ c.in-Some.is) (sym c.next_item-g.ensures ∙ c.in-Some-g.is) (sym c.next_item-h.ensures ∙ c.in-Some-h.is) (sym c.next_item-l.ensures ∙ c.in-Some-l.is)

pub returns-in-None : goal.returns-in-None
returns-in-None c =
    no_fourth c.args.text.now c.args.at c.requires.at_value (sym c.first-f.ensures ∙ c.in-Some.is) (sym c.next_item-g.ensures ∙ c.in-Some-g.is) (sym c.next_item-h.ensures ∙ c.in-Some-h.is) (sym c.next_item-l.ensures ∙ c.in-None.is) c.by_names.ensures
