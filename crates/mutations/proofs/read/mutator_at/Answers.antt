-- `mutations::read::mutator_at` meets its contract.
use mathlib.Core.Path.{sym, ap, ◌∙◌}
use Rattle.inner.specs.Positions.{tree_at}
use Rattle.mutations.specs.Mutating.{mutator_by}
use Rattle.mutations.proofs.Naming.{mutator_words_lem}
use Rattle.mutations.proofs.read.mutator_at.Goals as goal

pub returns : goal.returns
returns c =
    let a = c.args in
    mutator_words_lem (tree_at a.text.now a.at) ∙ sym (c.mutator_of.ensures ∙ ap (λ k. (mutator_by k)) c.choose-k.ensures)
