-- `json_writer::put_comma` meets its contract.
use mathlib.Core.Bool.{true, false}
use native.Mathlib.Omega.{arith}
use Rattle.json_writer.proofs.Putting.{put_nothing, put_is}
use Rattle.json_writer.proofs.Joins.{comma_is, no_comma, a_comma}
use Rattle.json_writer.proofs.put_comma.Goals as goal

pub returns-then-first : goal.returns-then-first
returns-then-first c = put_is (put_nothing c.args.out.now c.args.at) (comma_is c.args.first true _ c.if-first.true no_comma) (omega arith)

pub returns-else-first : goal.returns-else-first
returns-else-first c = put_is c.put_byte.ensures (comma_is c.args.first false _ c.if-first.false a_comma) (omega arith)
