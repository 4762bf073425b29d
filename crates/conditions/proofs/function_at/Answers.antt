-- `conditions::function_at` meets its contract.
use mathlib.Core.Path.{sym, ap, ◌∙◌}
use Rattle.inner.specs.Positions.{tree_at}
use Rattle.conditions.specs.Tests.{function_by}
use Rattle.conditions.proofs.Naming.{function_words_lem}
use Rattle.conditions.proofs.function_at.Goals as goal

pub returns : goal.returns
returns c =
    let a = c.args in
    function_words_lem (tree_at a.text.now a.at) ∙ sym (c.function_of.ensures ∙ ap (λ k. (function_by k)) c.choose-k.ensures)
