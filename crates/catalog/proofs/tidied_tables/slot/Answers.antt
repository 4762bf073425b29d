-- `catalog::tidied_tables::slot` meets its contract.
use Rattle.std.proofs.Common.{arith}
use Rattle.catalog.proofs.Slots.{slot_are}
use Rattle.catalog.proofs.tidied_tables.slot.Goals as goal

pub returns : goal.returns
returns c =
    let a = c.args in
    rw (c.kept_where.ensures, c.kept_where-2.ensures, c.kept_where-3.ensures)
    (slot_are a.used a.e.now c.told-e a.at (omega arith) c.kept_where-n.result c.kept_where-n.ensures (omega arith))
