-- `changes::table_of` meets its contract.
use Rattle.std.specs.Prelude.{Option, ℕ}
use mathlib.Core.Path.{sym, ap, ◌∙◌}
use Rattle.inner.specs.Working.{table_in}
use Rattle.changes.specs.Walk.{old_cells}
use Rattle.changes.proofs.Rows.{old_at, key_table}
use Rattle.changes.proofs.table_of.Goals as goal

pub key_at-key-requires : goal.key_at-key-requires
key_at-key-requires c =
    old_at c.args.area.now c.args.old _ c.in-Some.is c.requires

pub returns-in-Some : goal.returns-in-Some
unfolding old_cells
returns-in-Some c =
    let a = c.args in
    key_table c.key_at-key.ensures ∙ sym (ap (λ (o : Option ℕ). table_in (old_cells a.area.now o a.row.now)) c.in-Some.is)

pub returns-in-None : goal.returns-in-None
unfolding old_cells
returns-in-None c =
    let a = c.args in
    c.table_of.ensures ∙ sym (ap (λ (o : Option ℕ). table_in (old_cells a.area.now o a.row.now)) c.in-None.is)
