-- `value::sort` meets its contract.
use Rattle.std.proofs.Common.{◌-◌, arith}
use Rattle.model.specs.Catalog.{base_numbered}
use Rattle.value.proofs.Fours.{sort_on}
use Rattle.value.proofs.sort.Goals as goal

pub loop-i-preserved : goal.loop-i-preserved
loop-i-preserved c =
    let o = c.loop-i in
    sort_on (base_numbered c.args.kind) c.args.atoms c.args.n c.well_formed.1.0.1.0.1 c.requires o.i (c.args.n - 1 - (o.i - 1)) o.s c.put_in_order-t.result (omega arith) (omega arith) (omega arith) o.invariant c.put_in_order-t.ensures
