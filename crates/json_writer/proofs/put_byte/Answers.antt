-- `json_writer::put_byte` meets its contract.
use Rattle.std.proofs.Common.{refl, sym, ◌∙◌, arith}
use lib.Seq.{set_out}
use Rattle.json_writer.specs.Put.{put_at}
use Rattle.json_writer.proofs.put_byte.Goals as goal
use Rattle.json_writer.proofs.put_byte.Goals.{then-at-out, else-at-out}

pub returns : goal.returns
unfolding put_at
returns c =
    record {
      count = refl;
      short = omega arith;
      out = elim c.if-at-out.branch [ then-at-out w ↦ w.out-is | else-at-out w ↦ w.out-is ∙ sym (set_out _ _ _ w.if-at-out.false) ];
    }
