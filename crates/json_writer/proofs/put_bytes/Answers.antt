-- `json_writer::put_bytes` meets its contract.
use Rattle.std.proofs.Common.{refl, sym, ◌∙◌, arith}
use Rattle.json_writer.proofs.Putting.{put_past, put_copied}
use Rattle.json_writer.proofs.put_bytes.Goals as goal
use Rattle.json_writer.proofs.put_bytes.Goals.{then-at-out, else-at-out}

pub returns : goal.returns
returns c =
    let o = c.args.out.now in
    let t = c.args.text.now in
    record {
      count = refl;
      short = omega arith;
      out = elim c.if-at-out.branch [
        | then-at-out w ↦ w.out-is ∙ put_copied o c.args.at w.min-n.result _ t _ w.if-at-out.true w.min-n.ensures (omega arith) w.copy_from_slice.ensures.after
        | else-at-out w ↦ w.out-is ∙ sym (put_past o c.args.at t w.if-at-out.false)
      ];
    }
