-- `row_types::row_meets` meets its contract.
use mathlib.Core.Path.{sym, ◌∙◌}
use native.Mathlib.Omega.{arith}
use Rattle.row_types.proofs.Laws.{met_on, met_off, met_end}
use Rattle.row_types.proofs.row_meets.Goals as goal

pub returns-then-not-column_meets : goal.returns-then-not-column_meets
returns-then-not-column_meets c =
    let a = c.args in
    let l = c.loop-c in
    sym (l.invariant ∙ met_off a.columns.now a.row.now l.c (omega arith) (sym c.column_meets.ensures ∙ c.if-not-column_meets.true))

pub loop-c-preserved : goal.loop-c-preserved
loop-c-preserved c =
    let a = c.args in
    let l = c.loop-c in
    (l.invariant ∙ met_on a.columns.now a.row.now l.c (omega arith) (sym c.column_meets.ensures ∙ c.if-not-column_meets.false))

pub returns : goal.returns
returns c =
    let a = c.args in
    let l = c.loop-c in
    sym (l.invariant ∙ met_end a.columns.now a.row.now l.c (omega arith))
