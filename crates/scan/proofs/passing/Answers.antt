-- `scan::passing` meets its contract.
use Rattle.std.proofs.Common.{◌≡◌, ◌<◌, ◌+◌, ◌-◌, true, false, length, sym, ap, ◌∙◌, arith}
use Rattle.model.specs.Scan.{byte, passing}
use Rattle.scan.proofs.Bytes.{inside_test, pass_turn, pass_stops}
use Rattle.scan.proofs.passing.Goals as goal

pub loop-i-preserved : goal.loop-i-preserved
loop-i-preserved g c =
    let s = c.args.text.now in
    let i = c.loop-i.i in
    let t : g.f (byte s i) ≡ true = ap g.f (sym c.peek.ensures) ∙ sym (c.requires.1.1.0 _ _ c.class.ensures) ∙ c.loop-i-test.true in
    let h : i < length s = inside_test g.f c.requires.1.1.1 s i t in
    let e : i + 1 - c.args.at ≡ i - c.args.at + 1 = omega arith in
    (omega arith, c.loop-i.invariant.1 ∙ pass_turn g.f s (length s) (i - c.args.at) i (omega arith) t ∙ ap (λ k. passing g.f s (length s - k) (i + 1)) (sym e))

pub returns : goal.returns
returns g c =
    let s = c.args.text.now in
    let t : g.f (byte s c.loop-i.i) ≡ false = ap g.f (sym c.peek.ensures) ∙ sym (c.requires.1.1.0 _ _ c.class.ensures) ∙ c.loop-i-test.false in
    sym (c.loop-i.invariant.1 ∙ pass_stops g.f s _ c.loop-i.i t)
