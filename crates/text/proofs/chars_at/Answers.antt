-- `text::chars_at` meets its contract.
use mathlib.Core.Path.{sym, ap, ◌∙◌}
use Rattle.model.specs.Text.{chars}
use Rattle.text.proofs.Stepping.{word_begins, word_none}
use Rattle.text.proofs.chars_at.Goals as goal

pub returns-in-Some : goal.returns-in-Some
returns-in-Some c =
    let a = c.args in
    c.body_chars.ensures ∙ ap chars (sym (word_begins a.text.now a.at (sym c.body_at-f.ensures ∙ c.in-Some.is)))

pub returns-in-None : goal.returns-in-None
unfolding chars
returns-in-None c =
    let a = c.args in
    ap chars (sym (word_none a.text.now a.at (sym c.body_at-f.ensures ∙ c.in-None.is)))
