-- `area::read_rows` meets its contract.
use Rattle.std.proofs.Common.{◌≡◌, List, ℕ, [], ◌++◌, set, drop, sym, ap, ◌∙◌, arith}
use Rattle.std.proofs.Math.Seq.{take_all}
use Rattle.area.specs.Layout.{rows_in}
use Rattle.catalog.proofs.Copied.{copied_more}
use Rattle.area.proofs.Copies.{row_from, rows_length}
use Rattle.area.proofs.read_rows.Goals as goal

pub loop-i-preserved : goal.loop-i-preserved
loop-i-preserved c =
    let l = c.loop-i in
    let a = c.args.area.now in
    let b = drop c.args.at a in
    (λ j. set (l.invariant j) l.i ((c.row_at.ensures ∙ sym (row_from a c.args.at c.args.n l.i (omega arith))) j)) ∙ copied_more c.args.rows.now (rows_in c.args.n b) [] l.i (omega (arith, rows_length c.args.n b)) (omega arith)

pub returns : goal.returns
returns c =
    let n = c.args.n in
    let b = drop c.args.at c.args.area.now in
    let end : c.loop-i.i ≡ n = omega arith in
    (rw end at c.loop-i.invariant) ∙ ap (λ (q : List (List (List ℕ))). q ++ drop n c.args.rows.now) (take_all n (rows_in n b) (omega (arith, rows_length n b)))
