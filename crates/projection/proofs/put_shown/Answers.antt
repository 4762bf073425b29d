-- `projection::put_shown` meets its contract.
use native.Mathlib.Omega.{arith}
use Rattle.json_writer.proofs.Putting.{put_nothing, put_then, put_is}
use Rattle.projection.proofs.Columns.{shown_yes, shown_no}
use Rattle.projection.proofs.put_shown.Goals as goal

pub returns : goal.returns
returns c = put_is (put_then c.put_comma-r.ensures c.put_column.ensures) (shown_yes c.args.show c.args.first _ c.if-not-show.false) (omega arith)

pub returns-then-not-show : goal.returns-then-not-show
returns-then-not-show c = put_is (put_nothing c.args.out.now c.args.at) (shown_no c.args.show c.args.first _ c.if-not-show.true) (omega arith)
