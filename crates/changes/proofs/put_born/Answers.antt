-- `changes::put_born` meets its contract.
use mathlib.Core.Path.{◌≡◌, ap}
use native.Mathlib.Omega.{arith}
use Rattle.model.specs.Octets.{value}
use Rattle.model.specs.Records.{born, numbered}
use Rattle.record.specs.Kinds.{born_record}
use Rattle.record.specs.declared.Born.{Born}
use Rattle.record.proofs.Laws.{wrote_as}
use Rattle.changes.proofs.Writing.{recorded_one}
use Rattle.changes.proofs.put_born.Goals as goal

pub returns : goal.returns
returns c =
    let same : born_record c.new.result c.args.id.now ≡ numbered c.args.by.run c.next-n.result (born c.args.table (value c.args.id.now)) = ap (λ (r : Born). born_record r c.args.id.now) c.new.ensures in
    let v = wrote_as same c.write.ensures in
    recorded_one c.args.by.run c.args.by.number c.next-n.result _ c.args.to c.args.records.now _ 26 v.size c.next-n.ensures c.requires.room (omega arith) v.bytes
