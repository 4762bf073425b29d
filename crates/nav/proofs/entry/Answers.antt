-- `nav::entry` meets its contract.
use mathlib.Core.Path.{sym}
use native.Mathlib.Omega.{arith}
use lib.ListN.{get_or-eq_default}
use Rattle.nav.proofs.entry.Goals as goal

pub overflow_cast-result : goal.overflow_cast-result
overflow_cast-result c = omega (arith, c.shared_slice_known-1.given c.args.at)

pub returns-else-at-ends : goal.returns-else-at-ends
returns-else-at-ends c = sym (get_or-eq_default c.args.ends.now 0 c.if-at-ends.false)
