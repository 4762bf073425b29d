-- `text::part_is` meets its contract.
use mathlib.Core.Path.{refl, sym, ◌∙◌}
use native.Mathlib.Omega.{arith}
use Rattle.text.specs.Match.{matched}
use Rattle.text.proofs.Matching.{first_between, no_between, matched_past, matched_off, matched_on}
use Rattle.text.proofs.part_is.Goals as goal

pub loop-i-init : goal.loop-i-init
loop-i-init c = refl

pub returns-then-word-p : goal.returns-then-word-p
returns-then-word-p c =
    let a = c.args in
    sym (c.loop-i.invariant ∙ rw (first_between a.bytes.now c.loop-i.i a.to c.loop-i-test.true c.requires) (matched_past _ _ _ _ c.if-word-p.true))

pub returns-then-bytes-i : goal.returns-then-bytes-i
returns-then-bytes-i c =
    let a = c.args in
    sym (c.loop-i.invariant ∙ rw (first_between a.bytes.now c.loop-i.i a.to (omega arith) c.requires) (matched_off _ _ _ _ (omega arith) c.if-bytes-i.true))

pub loop-i-preserved : goal.loop-i-preserved
loop-i-preserved c =
    let a = c.args in
    c.loop-i.invariant ∙ rw (first_between a.bytes.now c.loop-i.i a.to (omega arith) c.requires) (matched_on _ _ _ _ (omega arith) c.if-bytes-i.false)

pub returns : goal.returns
unfolding matched
returns c =
    let a = c.args in
    sym (c.loop-i.invariant ∙ rw (no_between a.bytes.now c.loop-i.i a.to c.loop-i-test.false))
