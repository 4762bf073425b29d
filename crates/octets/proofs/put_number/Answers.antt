-- `octets::put_number` meets its contract.
use Rattle.std.proofs.Common.{◌-◌, arith}
use Rattle.octets.proofs.Laws.{turn}
use Rattle.octets.proofs.put_number.Goals as goal

pub loop-i-preserved : goal.loop-i-preserved
loop-i-preserved c =
    let w = c.args.width in
    let l = c.loop-i in
    turn c.args.out.now c.args.x w l.i (l.i - 1) (w - l.i) l.rest l.out (omega arith) (omega arith) (omega arith) l.invariant.0 l.invariant.1
