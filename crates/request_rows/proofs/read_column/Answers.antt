-- `request_rows::read_column` meets its contract.
use Rattle.inner.specs.Positions.{tree_at}
use Rattle.model.specs.Members.{members_in}
use Rattle.model.specs.Catalog.{column_from}
use Rattle.uuids.specs.Named.{names_at}
use Rattle.request_rows.proofs.Faults.{find_there, find_missing}
use Rattle.request_rows.proofs.Reading.{read_there, read_absent}
use Rattle.request_rows.proofs.read_column.Goals as goal

pub row_value-v-requires : goal.row_value-v-requires
row_value-v-requires c =
    let a = c.args in
    record { running = c.requires.running; at_value = (find_there a.text.now (members_in (tree_at a.text.now a.at)) c.find-f.ensures c.name_of.ensures c.in-Some.is).1 }

pub returns-in-Some : goal.returns-in-Some
returns-in-Some c =
    let a = c.args in
    let n = names_at a.text.now a.names.now in
    let x = column_from a.column.now in
    let ms = members_in (tree_at a.text.now a.at) in
    let p = find_there a.text.now ms c.find-f.ensures c.name_of.ensures c.in-Some.is in
    let v = c.row_value-v.result in
    read_there a.insert n ms x a.c a.row.now p.0 v.count v.fits c.row_value-v.new.atoms c.put_value.new.row c.row_value-v.ensures c.named_fault-w.ensures c.earlier-g.ensures c.put_value.ensures

pub returns-in-None : goal.returns-in-None
returns-in-None c =
    let a = c.args in
    let n = names_at a.text.now a.names.now in
    let x = column_from a.column.now in
    let ms = members_in (tree_at a.text.now a.at) in
    read_absent a.insert n ms x a.c a.row.now (find_missing a.text.now ms c.find-f.ensures c.name_of.ensures c.in-None.is) c.absent_fault-g.ensures
