-- `selection::is_fair` meets its contract.
use mathlib.Core.Path.{sym, ◌∙◌}
use mathlib.Core.List.{map}
use native.Mathlib.Omega.{arith}
use Rattle.inner.specs.Positions.{tree_at}
use Rattle.model.specs.Catalog.{column_from}
use Rattle.selection.proofs.Names.{fair_id, fair_column, fair_unknown, named_small}
use Rattle.selection.proofs.is_fair.Goals as goal

pub returns-then-is_word : goal.returns-then-is_word
returns-then-is_word c =
    let a = c.args in
    λ show f. fair_id (map column_from a.columns.now) (tree_at a.text.now a.at) show f.id (sym c.is_word.ensures ∙ c.if-is_word.true)

pub overflow_add-result : goal.overflow_add-result
overflow_add-result c =
    let a = c.args in
    omega (arith, c.requires, named_small a.columns.now (tree_at a.text.now a.at) c.column_at-f.ensures c.in-Some.is)

pub bounds-flags-c : goal.bounds-flags-c
bounds-flags-c c =
    let a = c.args in
    omega (arith, c.requires, named_small a.columns.now (tree_at a.text.now a.at) c.column_at-f.ensures c.in-Some.is)

pub returns-in-Some : goal.returns-in-Some
returns-in-Some c =
    let a = c.args in
    let j = tree_at a.text.now a.at in
    λ show f. fair_column a.columns.now j c.column_at-f.ensures c.in-Some.is show (sym c.is_word.ensures ∙ c.if-is_word.false) (f.column c.in-Some.c (named_small a.columns.now j c.column_at-f.ensures c.in-Some.is))

pub returns-in-None : goal.returns-in-None
returns-in-None c =
    let a = c.args in
    λ show f. fair_unknown (map column_from a.columns.now) (tree_at a.text.now a.at) show (sym c.is_word.ensures ∙ c.if-is_word.false) c.column_at-f.ensures c.in-None.is
