-- `area::put_rows` meets its contract.
use mathlib.Core.Path.{◌≡◌, sym, ap, ◌∙◌}
use mathlib.Core.List.{[], ◌++◌}
use Prim.Native.Nat.{ℕ, ◌+◌, ◌-◌, ◌*◌, ◌<◌}
use native.Mathlib.Omega.{arith}
use lib.ListN.{length, get_or, take, drop, length-append, length-drop}
use lib.Seq.{length-take-le}
use Rattle.model.specs.Base.{flat}
use Rattle.octets.proofs.Rests.{write_next}
use Rattle.area.specs.Layout.{bytes_of}
use Rattle.area.proofs.Copies.{bytes_more}
use borrow.Rule.Slice.PartMut.{put_mid}
use Rattle.area.proofs.put_rows.Goals as goal

pub put_row-requires : goal.put_row-requires
put_row-requires c =
    let l = c.loop-i in
    let e : length (get_or c.args.rows.now l.i []) ≡ 25 = omega arith in
    let d = drop (625 * l.i) l.out in
    let m = length-drop (625 * l.i) l.out in
    (e, omega (arith, length-take-le (length l.out - 625 * l.i) d (omega (arith, m)), c.requires))

pub loop-i-preserved : goal.loop-i-preserved
loop-i-preserved c =
    let l = c.loop-i in
    let x = c.args.rows.now in
    let t : l.i < c.args.n = omega arith in
    let p = c.put_row.ensures in
    let f : bytes_of (take (l.i + 1) x) ≡ bytes_of (take l.i x) ++ flat (get_or x l.i []) = bytes_more x l.i (omega (arith, c.requires)) in
    let k : 625 * l.i + 625 ≡ 625 * (l.i + 1) = omega arith in
    let z : length (bytes_of (take (l.i + 1) x)) ≡ 625 * (l.i + 1) = ap length f ∙ length-append (bytes_of (take l.i x)) (flat (get_or x l.i [])) ∙ omega (arith, p.1) in
    let w : put_mid (625 * l.i) (length l.out - 625 * l.i) l.out c.put_row.new.out ≡ bytes_of (take (l.i + 1) x) ++ drop (625 * (l.i + 1)) c.args.out.now =
    write_next (bytes_of (take l.i x)) (flat (get_or x l.i [])) c.args.out.now l.out c.put_row.new.out (625 * l.i) 625 l.invariant.0 l.invariant.1 p.0
    ∙ (λ i. sym f i ++ drop (k i) c.args.out.now) in
    (z, w)

pub returns : goal.returns
returns c =
    let l = c.loop-i in
    let x = c.args.rows.now in
    let e : l.i ≡ c.args.n = omega arith in
    record {
      bytes = l.invariant.1 ∙ ap (λ (k : ℕ). bytes_of (take k x) ++ drop (625 * k) c.args.out.now) e;
      size = ap (λ (k : ℕ). length (bytes_of (take k x))) (sym e) ∙ l.invariant.0 ∙ ap (λ (k : ℕ). 625 * k) e;
    }
