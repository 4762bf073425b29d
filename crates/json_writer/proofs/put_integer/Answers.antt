-- `json_writer::put_integer` meets its contract.
use native.Mathlib.Omega.{arith}
use Rattle.json_writer.proofs.Putting.{put_then, put_is}
use Rattle.json_writer.proofs.Escapes.{integer_plus, integer_minus}
use Rattle.json_writer.proofs.put_integer.Goals as goal

pub returns-then-x-lt9223372036854775808 : goal.returns-then-x-lt9223372036854775808
returns-then-x-lt9223372036854775808 c = put_is c.put_decimal.ensures (integer_plus c.args.atom.now c.number-x.result c.number-x.ensures c.if-x-lt9223372036854775808.true) (omega arith)

pub returns : goal.returns
returns c = put_is (put_then c.put_byte-r.ensures c.put_decimal-2.ensures) (integer_minus c.args.atom.now c.number-x.result c.number-x.ensures c.if-x-lt9223372036854775808.false (omega arith)) (omega arith)
