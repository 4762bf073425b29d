-- `changes::put_end` meets its contract.
use mathlib.Core.Path.{ap}
use native.Mathlib.Omega.{arith}
use Rattle.record.specs.Kinds.{end_record}
use Rattle.record.proofs.Laws.{wrote_as}
use Rattle.changes.proofs.Writing.{recorded_one}
use Rattle.changes.proofs.put_end.Goals as goal

pub returns : goal.returns
returns c =
    let v = wrote_as (ap end_record c.new.ensures) c.write.ensures in
    recorded_one c.args.by.run c.args.by.number c.next-n.result _ c.args.to c.args.records.now _ 9 v.size c.next-n.ensures c.requires (omega arith) v.bytes
