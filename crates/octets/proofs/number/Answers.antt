-- `octets::number` meets its contract.
use Rattle.std.proofs.Common.{refl, arith}
use Rattle.octets.proofs.Laws.{read_turn}
use Rattle.octets.proofs.number.Goals as goal

pub overflow_mul-v : goal.overflow_mul-v
overflow_mul-v c =
    let l = c.loop-b in
    let t = read_turn c.args.s.now c.args.width l.b-index l.v _ c.requires.0 c.loop-b-test.true c.type_inv.s l.invariant.0 l.invariant.1 refl in
    omega (arith, t.0)

pub overflow_add-v : goal.overflow_add-v
overflow_add-v c =
    let l = c.loop-b in
    record { fits = (read_turn c.args.s.now c.args.width l.b-index l.v c.from.result c.requires.0 c.loop-b-test.true c.type_inv.s l.invariant.0 l.invariant.1 c.from.ensures).0 }

pub loop-b-preserved : goal.loop-b-preserved
loop-b-preserved c =
    let l = c.loop-b in
    let t = read_turn c.args.s.now c.args.width l.b-index l.v c.from.result c.requires.0 c.loop-b-test.true c.type_inv.s l.invariant.0 l.invariant.1 c.from.ensures in
    (t.1, t.2)
