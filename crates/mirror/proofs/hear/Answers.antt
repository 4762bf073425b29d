-- `mirror::hear` meets its contract.
use native.Mathlib.Omega.{arith}
use Rattle.model.proofs.Octets.{octets}
use Rattle.mirror.proofs.Opening.{state_bad, state_good, held_ordered}
use Rattle.mirror.proofs.Hearing.{hear_other, hear_bad, hear_got}
use Rattle.mirror.proofs.Numbered.{hear_numbered}
use borrow.Author.Rules.{rules}
use Rattle.mirror.proofs.hear.Goals as goal

pub returns-then-area-ne-MIRROR_BYTES : goal.returns-then-area-ne-MIRROR_BYTES
returns-then-area-ne-MIRROR_BYTES c =
    let a = c.args in
    let both = hear_numbered a.area.now a.bytes.now (hear_other a.area.now a.bytes.now c.if-area-ne-MIRROR_BYTES.true) in
    record { result_value = both.0; bytes_value = both.1 }

pub returns-then-not-opened : goal.returns-then-not-opened
returns-then-not-opened c =
    let a = c.args in
    let both = hear_numbered a.area.now a.bytes.now (hear_bad a.area.now a.bytes.now c.if-area-ne-MIRROR_BYTES.false (state_bad c.opened.ensures (c.if-not-opened.true))) in
    record { result_value = both.0; bytes_value = both.1 }

pub step-left-requires : goal.step-left-requires
step-left-requires c =
    let h = c.opened.ensures.held (c.if-not-opened.false) in
    record { accepted = h.accepted; ready = record { few = omega (arith, h.few, c.row_count-count.ensures); room = search rules; ordered = held_ordered h c.row_count-count.result c.row_count-count.ensures } }

pub returns : goal.returns
returns c =
    let a = c.args in
    let b = c.if-not-opened.false in
    let both = hear_numbered a.area.now a.bytes.now
    (hear_got a.area.now a.bytes.now _ _ _ c.step-left.result c.run_of-run.result c.numbers_of-was.result c.row_count-count.result c.run_of-run.ensures c.numbers_of-was.ensures c.row_count-count.ensures
    (state_good c.opened.ensures b) (c.opened.ensures.held b) c.step-left.ensures (octets a.bytes.now (λ i. (c.shared_slice_known-1.given i).fits)) (search rules) _ c.rewrite.ensures) in
    record { result_value = both.0; bytes_value = both.1 }
