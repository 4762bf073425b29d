-- `element_atoms::long_among` meets its contract.
use mathlib.Core.Path.{sym, ap, ◌∙◌}
use Rattle.inner.specs.Positions.{tree_at, word_in}
use Rattle.model.specs.Base.{any}
use Rattle.model.specs.Text.{is_word}
use Rattle.elements.specs.Elements.{elements_from}
use Rattle.elements.proofs.Walk.{walk_less}
use Rattle.element_atoms.proofs.Among.{any_end, any_here, any_on}
use Rattle.element_atoms.proofs.long_among.Goals as goal

pub returns-then-same : goal.returns-then-same
returns-then-same c =
    let a = c.args in
    sym (c.loop-g.invariant ∙ any_here a.text.now a.set (is_word (word_in (tree_at a.text.now a.at))) c.in-Some.is (sym c.same_strings-same.ensures ∙ c.if-same.true))

pub loop-g-smaller : goal.loop-g-smaller
loop-g-smaller c = rw c.next_element-g.ensures (walk_less c.args.text.now c.args.set c.in-Some.is)

pub loop-g-preserved : goal.loop-g-preserved
loop-g-preserved c =
    let a = c.args in
    c.loop-g.invariant ∙ any_on a.text.now a.set (is_word (word_in (tree_at a.text.now a.at))) c.in-Some.is (sym c.same_strings-same.ensures ∙ c.if-same.false)
    ∙ ap (λ g. any (is_word (word_in (tree_at a.text.now a.at))) (elements_from a.text.now a.set g)) (sym c.next_element-g.ensures)

pub returns : goal.returns
returns c =
    let a = c.args in
    sym (c.loop-g.invariant ∙ any_end a.text.now a.set (is_word (word_in (tree_at a.text.now a.at))) c.in_default.is)
