-- `area::read_catalog` meets its contract.
use Rattle.std.proofs.Common.{◌≡◌, [], set, drop, sym, ◌∙◌, arith}
use Rattle.model.specs.Areas.{entries_in}
use Rattle.catalog.proofs.Copied.{copied_more, copied_end}
use Rattle.area.proofs.Copies.{chunks_length, chunk_from}
use Rattle.area.proofs.read_catalog.Goals as goal

pub loop-j-preserved : goal.loop-j-preserved
loop-j-preserved c =
    let l = c.loop-j in
    let a = c.args.area.now in
    (λ j. set (l.invariant j) l.j ((c.bytes_at.ensures ∙ sym (chunk_from 48 a 8 29 l.j (omega arith))) j)) ∙ copied_more c.args.catalog.now (entries_in a) [] l.j (omega (arith, chunks_length 48 29 (drop 8 a))) (omega arith)

pub returns : goal.returns
returns c =
    let a = c.args.area.now in
    let end : c.loop-j.j ≡ 29 = omega arith in
    (rw end at c.loop-j.invariant) ∙ copied_end c.args.catalog.now (entries_in a) [] 29 (chunks_length 48 29 (drop 8 a)) (omega arith)
