-- `projection::put_row` meets its contract.
use Prim.Native.Nat.{◌≤◌}
use mathlib.Core.Path.{◌∙◌}
use native.Mathlib.Omega.{arith}
use Rattle.json_writer.proofs.Putting.{put_then, put_is}
use Rattle.projection.proofs.Columns.{row_is}
use Rattle.projection.proofs.put_row.Goals as goal

pub put_columns-e-requires : goal.put_columns-e-requires
put_columns-e-requires c =
    let six : c.wide-n.result ≤ 6 = omega (arith, c.wide-n.ensures, c.width.ensures, c.requires.2) in
    (omega (arith, c.put_row_id-i.ensures.short, c.put_byte-r.ensures.short), six, omega (arith, six))

pub returns : goal.returns
returns c =
    let s = c.args in
    put_is
    (put_then c.put_byte-r.ensures (put_then c.put_row_id-i.ensures (put_then c.put_columns-e.ensures c.put_byte.ensures)))
    (row_is s.schema.now s.table s.row.now s.shown.now c.wide-n.result (c.wide-n.ensures ∙ c.width.ensures))
    (omega arith)
