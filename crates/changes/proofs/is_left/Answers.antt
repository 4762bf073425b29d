-- `changes::is_left` meets its contract.
use Rattle.std.specs.Prelude.{Option, ℕ}
use mathlib.Core.Path.{sym, ap, ◌∙◌}
use Rattle.inner.specs.Positions.{is_nothing}
use Rattle.inner.specs.Working.{value_in}
use Rattle.changes.specs.Walk.{old_cells, skips}
use Rattle.changes.proofs.Rows.{old_at}
use Rattle.changes.proofs.is_left.Goals as goal

pub same_column-requires : goal.same_column-requires
same_column-requires c =
    let k = old_at c.args.area.now c.args.old _ c.in-Some.is c.requires.old in
    (k.0, k.1, c.requires.c_lt_most_columns)

pub returns-in-Some : goal.returns-in-Some
unfolding skips old_cells is_nothing
returns-in-Some c =
    let a = c.args in
    c.same_column.ensures
    ∙ sym (ap (λ (o : Option ℕ). skips (is_nothing o) (value_in a.c (old_cells a.area.now o a.row.now)) (value_in a.c a.row.now)) c.in-Some.is)

pub returns-in-None : goal.returns-in-None
unfolding skips old_cells is_nothing
returns-in-None c =
    let a = c.args in
    sym (ap (λ (o : Option ℕ). skips (is_nothing o) (value_in a.c (old_cells a.area.now o a.row.now)) (value_in a.c a.row.now)) c.in-None.is)
