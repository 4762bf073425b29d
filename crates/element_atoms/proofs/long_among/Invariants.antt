-- The loop of `element_atoms::long_among`.
use mathlib.Core.Path.{◌≡◌}
use Rattle.inner.specs.Positions.{left, tree_at, word_in}
use Rattle.model.specs.Base.{any}
use Rattle.model.specs.Text.{is_word}
use Rattle.elements.specs.Elements.{elements_from}
use Rattle.element_atoms.proofs.long_among.Given as goal

abbrev pub invariant-loop-g : goal.invariant-loop-g
invariant-loop-g l = any (is_word (word_in (tree_at l.text l.at))) (elements_from l.text l.set l.initial.g) ≡ any (is_word (word_in (tree_at l.text l.at))) (elements_from l.text l.set l.g)

abbrev pub decreases-loop-g : goal.decreases-loop-g
decreases-loop-g l = left l.text l.g
