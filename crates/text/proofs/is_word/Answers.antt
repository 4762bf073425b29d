-- `text::is_word` meets its contract.
use mathlib.Core.Path.{sym, ◌∙◌}
use Rattle.inner.specs.Positions.{tree_at}
use Rattle.text.proofs.Words.{place_tree, place_none, word_not, word_text}
use Rattle.text.proofs.is_word.Goals as goal

pub returns-in_default : goal.returns-in_default
returns-in_default c =
    let a = c.args in
    word_not a.word.now (tree_at a.text.now a.at) (place_none a.text.now a.at (sym c.body_at-f.ensures ∙ c.in_default.is))

pub returns : goal.returns
returns c =
    let a = c.args in
    c.body_is.ensures ∙ word_text a.word.now _ (place_tree a.text.now a.at (sym c.body_at-f.ensures ∙ c.in-Some.is))
