-- `area::row_at` meets its contract.
use Rattle.std.proofs.Common.{◌≡◌, [], set, drop, replicate, sym, refl, ◌∙◌, arith}
use Rattle.model.specs.Records.{cut}
use Rattle.catalog.proofs.Copied.{copied_more, copied_end}
use Rattle.area.proofs.Copies.{cell_from, cut_length}
use Rattle.area.proofs.row_at.Goals as goal

pub loop-j-preserved : goal.loop-j-preserved
loop-j-preserved c =
    let l = c.loop-j in
    let a = c.args.area.now in
    let b = drop c.args.at a in
    (λ j. set (l.invariant j) l.j ((c.bytes_at.ensures ∙ sym (cell_from a c.args.at l.j (omega arith))) j)) ∙ copied_more (replicate 25 (replicate 25 0)) (cut 25 b) [] l.j (omega (arith, cut_length 25 b)) (omega arith)

pub returns : goal.returns
returns c =
    let b = drop c.args.at c.args.area.now in
    let end : c.loop-j.j ≡ 25 = omega arith in
    (rw end at c.loop-j.invariant) ∙ copied_end (replicate 25 (replicate 25 0)) (cut 25 b) [] 25 (cut_length 25 b) refl
