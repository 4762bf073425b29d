-- `area::canonical_row` meets its contract.
use mathlib.Core.Path.{sym, ◌∙◌}
use native.Mathlib.Omega.{arith}
use Rattle.area.proofs.Schemas.{canonical_on, canonical_off, canonical_end}
use Rattle.area.proofs.canonical_row.Goals as goal

pub returns-then-not-canonical_column : goal.returns-then-not-canonical_column
returns-then-not-canonical_column c =
    let a = c.args in
    let l = c.loop-c in
    sym (l.invariant ∙ canonical_off a.cells.now a.row.now l.c (omega arith) (sym c.canonical_column.ensures ∙ c.if-not-canonical_column.true))

pub loop-c-preserved : goal.loop-c-preserved
loop-c-preserved c =
    let a = c.args in
    let l = c.loop-c in
    (l.invariant ∙ canonical_on a.cells.now a.row.now l.c (omega arith) (sym c.canonical_column.ensures ∙ c.if-not-canonical_column.false))

pub returns : goal.returns
returns c =
    let a = c.args in
    let l = c.loop-c in
    sym (l.invariant ∙ canonical_end a.cells.now a.row.now l.c (omega arith))
