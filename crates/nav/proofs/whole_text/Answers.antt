-- `nav::whole_text` meets its contract.
use mathlib.Core.Path.{sym, ap, ◌∙◌}
use Rattle.model.specs.Whole.{plus_of, minus_of}
use Rattle.nav.proofs.Numbers.{text_none, text_minus, text_plus}
use Rattle.nav.proofs.whole_text.Goals as goal

pub returns-then-end-at : goal.returns-then-end-at
returns-then-end-at c = text_none _ _ _ c.if-end-at.true

pub returns-then-b-eq-DASH : goal.returns-then-b-eq-DASH
returns-then-b-eq-DASH c =
    c.minus.ensures ∙ ap minus_of c.digits_of.ensures ∙ text_minus c.args.text.now c.args.at c.args.end c.if-end-at.false c.requires (sym c.peek-b.ensures ∙ c.if-b-eq-DASH.true)

pub returns : goal.returns
returns c =
    c.plus.ensures ∙ ap plus_of c.digits_of-2.ensures ∙ text_plus c.args.text.now c.args.at c.args.end c.if-end-at.false c.requires (λ h. c.if-b-eq-DASH.false (c.peek-b.ensures ∙ h))
