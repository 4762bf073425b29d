-- `indexes::number` meets its contract.
use Rattle.indexes.proofs.Numbers.{number_at, number_none}
use Rattle.model.specs.Value.{text_of}
use Rattle.inner.specs.Positions.{tree_at}
use mathlib.Core.Path.{ap, ◌∙◌}
use native.Mathlib.Omega.{arith}
use Rattle.indexes.proofs.number.Goals as goal

pub overflow_cast-result : goal.overflow_cast-result
overflow_cast-result c =
    let q = c.text_of.ensures ∙ ap text_of c.name_at-name.ensures in
    omega (arith, c.requires.columns_len_bound, (number_at c.args.columns.now (tree_at c.args.text.now c.args.at) c.requires.at_value q c.named-f.ensures c.in-Some.is).1)

pub returns-in-Some : goal.returns-in-Some
returns-in-Some c =
    let q = c.text_of.ensures ∙ ap text_of c.name_at-name.ensures in
    (number_at c.args.columns.now (tree_at c.args.text.now c.args.at) c.requires.at_value q c.named-f.ensures c.in-Some.is).0

pub returns-in-None : goal.returns-in-None
returns-in-None c =
    let q = c.text_of.ensures ∙ ap text_of c.name_at-name.ensures in
    number_none c.args.columns.now (tree_at c.args.text.now c.args.at) c.requires.at_value q c.named-f.ensures c.in-None.is
