-- `changes::put_column` meets its contract.
use mathlib.Core.Path.{◌≡◌, ap, ◌∙◌}
use native.Mathlib.Omega.{arith}
use Rattle.model.specs.Octets.{value}
use Rattle.model.specs.Records.{column, numbered}
use Rattle.inner.specs.Working.{table_in, id_in, value_in}
use Rattle.record.specs.Kinds.{column_record}
use Rattle.record.specs.declared.Column.{Column}
use Rattle.record.proofs.Laws.{wrote_as}
use Rattle.changes.proofs.Writing.{recorded_one}
use Rattle.changes.proofs.put_column.Goals as goal

pub returns : goal.returns
unfolding id_in
returns c =
    let same : column_record c.new.result c.id_of.result.now c.atoms_in-atoms.result.now ≡ numbered c.args.by.run c.next-n.result (column (table_in c.args.row.now) (id_in c.args.row.now) c.args.c (value_in c.args.c c.args.row.now)) =
    ap (λ (r : Column). column_record r c.id_of.result.now c.atoms_in-atoms.result.now) c.new.ensures
    ∙ (λ j. numbered c.args.by.run c.next-n.result (column (c.table_of-table.ensures j) (value (c.id_of.ensures.bytes j)) c.args.c (record { count = c.count_of-count.ensures j; atoms = c.atoms_in-atoms.ensures.0 j }))) in
    let v = wrote_as same c.write.ensures in
    recorded_one c.args.by.run c.args.by.number c.next-n.result _ c.args.to c.args.records.now _ 128 v.size c.next-n.ensures c.requires.room (omega arith) v.bytes
