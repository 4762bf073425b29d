-- `json_writer::put_dash` meets its contract.
use Rattle.std.proofs.Common.{arith, rules}
use Rattle.json_writer.specs.Texts.{dash_text}
use Rattle.json_writer.proofs.Putting.{put_nothing, put_is}
use Rattle.json_writer.proofs.put_dash.Goals as goal

pub returns-then-matches : goal.returns-then-matches
unfolding dash_text
returns-then-matches c = put_is c.put_byte.ensures (search rules) (omega arith)

pub returns-else-matches : goal.returns-else-matches
unfolding dash_text
returns-else-matches c = put_is (put_nothing c.args.out.now c.args.at) (search rules) (omega arith)
