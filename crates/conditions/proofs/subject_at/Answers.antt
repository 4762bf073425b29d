-- `conditions::subject_at` meets its contract.
use mathlib.Core.Path.{sym, ◌∙◌}
use Rattle.inner.specs.Positions.{tree_at}
use Rattle.conditions.proofs.Naming.{about_id, about_column, about_none}
use Rattle.conditions.proofs.subject_at.Goals as goal

pub returns-then-own : goal.returns-then-own
returns-then-own c =
    let a = c.args in
    about_id a.columns.now (tree_at a.text.now a.at) (sym c.is_word-own.ensures ∙ c.if-own.true)

pub returns-in-Some : goal.returns-in-Some
returns-in-Some c =
    let a = c.args in
    about_column a.columns.now (tree_at a.text.now a.at) (sym c.is_word-own.ensures ∙ c.if-own.false) c.column_at-f.ensures c.in-Some.is

pub returns-in-None : goal.returns-in-None
returns-in-None c =
    let a = c.args in
    about_none a.columns.now (tree_at a.text.now a.at) (sym c.is_word-own.ensures ∙ c.if-own.false) c.column_at-f.ensures c.in-None.is
