-- `conditions::lookup::column_at` meets its contract.
use mathlib.Core.Path.{sym, ap, ◌∙◌}
use Rattle.inner.specs.Positions.{tree_at}
use Rattle.model.specs.Text.{is_word}
use Rattle.conditions.proofs.Columns.{column_start, column_here, column_next, column_end_lem}
use Rattle.conditions.proofs.lookup.column_at.Goals as goal

pub loop-i-init : goal.loop-i-init
loop-i-init c = column_start c.args.columns.now (tree_at c.args.text.now c.args.at)

pub returns-then-is_word : goal.returns-then-is_word
returns-then-is_word c =
    let j = tree_at c.args.text.now c.args.at in
    sym (c.loop-i.invariant ∙ column_here c.args.columns.now c.loop-i.i j c.loop-i-test.true (sym (c.is_word.ensures ∙ ap (λ w. is_word w j) c.name_of.ensures) ∙ c.if-is_word.true))

pub loop-i-preserved : goal.loop-i-preserved
loop-i-preserved c =
    let j = tree_at c.args.text.now c.args.at in
    c.loop-i.invariant ∙ column_next c.args.columns.now c.loop-i.i j c.loop-i-test.true (sym (c.is_word.ensures ∙ ap (λ w. is_word w j) c.name_of.ensures) ∙ c.if-is_word.false)

pub returns : goal.returns
returns c =
    sym (c.loop-i.invariant ∙ column_end_lem c.args.columns.now c.loop-i.i (tree_at c.args.text.now c.args.at) c.loop-i-test.false)
