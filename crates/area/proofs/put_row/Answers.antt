-- `area::put_row` meets its contract.
use Rattle.std.proofs.Common.{◌≡◌, ℕ, ◌+◌, ◌-◌, ◌*◌, List, [], ◌++◌, length, take, drop, get_or, sym, ap, ◌∙◌, arith, length-append}
use Rattle.std.proofs.Math.Seq.{take_all}
use borrow.Rule.Slice.PartMut.{put_mid}
use Rattle.model.specs.Base.{flat}
use Rattle.area.proofs.Copies.{flat_more, write_part}
use Rattle.area.proofs.put_row.Goals as goal

pub loop-j-preserved : goal.loop-j-preserved
loop-j-preserved c =
    let l = c.loop-j in
    let x = c.args.row.now in
    let y = c.args.out.now in
    let copy = c.copy_from_slice.ensures.after in
    let f : flat (take (l.j + 1) x) ≡ flat (take l.j x) ++ get_or x l.j [] = flat_more x l.j (omega arith) in
    let k : 25 * l.j + 25 ≡ 25 * (l.j + 1) = omega arith in
    let w : put_mid (25 * l.j) (25 * l.j + 25 - 25 * l.j) l.out c.copy_from_slice.new.self ≡ flat (take (l.j + 1) x) ++ drop (25 * (l.j + 1)) y =
    ap (put_mid (25 * l.j) (25 * l.j + 25 - 25 * l.j) l.out) copy
    ∙ write_part (flat (take l.j x)) (get_or x l.j []) y l.out (25 * l.j) 25 l.invariant.0 l.invariant.1
    ∙ (λ i. sym f i ++ drop (k i) y) in
    (ap length f ∙ length-append (flat (take l.j x)) (get_or x l.j []) ∙ omega (arith, ap length copy), w)

pub returns : goal.returns
returns c =
    let l = c.loop-j in
    let x = c.args.row.now in
    let e : l.j ≡ 25 = omega arith in
    let f = take_all 25 x (omega arith) in (
      l.invariant.1 ∙ ap (λ (k : ℕ). flat (take k x) ++ drop (25 * k) c.args.out.now) e ∙ ap (λ (r : List (List ℕ)). flat r ++ drop 625 c.args.out.now) f,
      ap (λ (r : List (List ℕ)). length (flat r)) (sym f) ∙ ap (λ (k : ℕ). length (flat (take k x))) (sym e) ∙ l.invariant.0 ∙ omega arith,
    )
