-- `text::same_strings` meets its contract.
use mathlib.Core.Path.{sym, ap, ◌∙◌}
use Rattle.model.specs.Octets.{eq_bytes}
use Rattle.model.specs.Text.{is_word}
use Rattle.inner.specs.Positions.{tree_at, word_in}
use Rattle.text.specs.Steps.{body_from}
use Rattle.text.proofs.Stepping.{word_begins, word_none, same_begins, same_none}
use Rattle.text.proofs.same_strings.Goals as goal

pub returns-in-Some-g : goal.returns-in-Some-g
returns-in-Some-g c =
    let a = c.args in
    let s = a.text.now in
    let w = word_begins s a.p (sym c.body_at-f.ensures ∙ c.in-Some.is) in
    c.same_bodies.ensures ∙ ap (eq_bytes (body_from s _)) (sym w) ∙ sym (same_begins s a.q (word_in (tree_at s a.p)) (sym c.body_at-g.ensures ∙ c.in-Some-g.is))

pub returns-in-None-g : goal.returns-in-None-g
returns-in-None-g c =
    let a = c.args in
    let s = a.text.now in
    sym (same_none s a.q (word_in (tree_at s a.p)) (sym c.body_at-g.ensures ∙ c.in-None-g.is))

pub returns-in-None : goal.returns-in-None
returns-in-None c =
    let a = c.args in
    let s = a.text.now in
    c.is_word.ensures ∙ ap (λ w. is_word w (tree_at s a.q)) (sym (word_none s a.p (sym c.body_at-f.ensures ∙ c.in-None.is)))
