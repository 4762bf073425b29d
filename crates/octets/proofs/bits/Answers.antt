-- `octets::bits` meets its contract.
use Rattle.std.proofs.Common.{arith, rules}
use Rattle.model.specs.Whole.{whole_int}
use Rattle.octets.proofs.Orders.{twos_minus}
use Rattle.octets.proofs.bits.Goals as goal

pub returns-in-Plus : goal.returns-in-Plus
unfolding whole_int
returns-in-Plus c = search rules

pub returns-in-Minus : goal.returns-in-Minus
unfolding whole_int
returns-in-Minus c = rw c.in-Minus.is (twos_minus c.in-Minus.m c.wrapping_neg.result (omega arith) c.wrapping_neg.ensures (omega arith))

pub returns-in-Other : goal.returns-in-Other
unfolding whole_int
returns-in-Other c = search rules
