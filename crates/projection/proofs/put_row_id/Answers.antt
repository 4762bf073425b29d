-- `projection::put_row_id` meets its contract.
use mathlib.Core.Path.{◌∙◌}
use mathlib.Core.Bool.{true}
use native.Mathlib.Omega.{arith}
use Rattle.json_writer.proofs.Putting.{put_nothing, put_then, put_is}
use Rattle.projection.proofs.Columns.{shown_yes, shown_no, row_id_is}
use Rattle.projection.proofs.put_row_id.Goals as goal

pub returns : goal.returns
returns c =
    put_is
    (put_then c.put_bytes-r.ensures c.put_id.ensures)
    (row_id_is _ c.args.row.now c.id_of.ensures.bytes ∙ shown_yes c.args.show true _ c.if-not-show.false)
    (omega arith)

pub returns-then-not-show : goal.returns-then-not-show
returns-then-not-show c = put_is (put_nothing c.args.out.now c.args.at) (shown_no c.args.show true _ c.if-not-show.true) (omega arith)
