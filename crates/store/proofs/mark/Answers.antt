-- `store::mark` meets its contract.
use mathlib.Core.Path.{◌∙◌}
use native.Mathlib.Omega.{arith}
use Rattle.store.proofs.Calls.{mark_numbered, mark_length, mark_short, mark_disordered, mark_made}
use Rattle.store.proofs.mark.Goals as goal

pub returns-then-area-ne-STORE_BYTES : goal.returns-then-area-ne-STORE_BYTES
returns-then-area-ne-STORE_BYTES c =
    let a = c.args in
    let z = mark_length a.area.now a.mark.now c.if-area-ne-STORE_BYTES.true in
    let both = mark_numbered a.area.now a.mark.now (z.0, c.clear.ensures ∙ z.1) in
    record { result_value = both.0; value = both.1.0; mark_after = both.1.1 }

pub returns-then-mark-lt-LEAST_MARK : goal.returns-then-mark-lt-LEAST_MARK
returns-then-mark-lt-LEAST_MARK c =
    let a = c.args in
    let z = mark_short a.area.now a.mark.now c.if-area-ne-STORE_BYTES.false (omega (arith, c.clear.auto.b, c.if-mark-lt-LEAST_MARK.true)) in
    let both = mark_numbered a.area.now a.mark.now (z.0, c.clear.ensures ∙ z.1) in
    record { result_value = both.0; value = both.1.0; mark_after = both.1.1 }

pub returns-then-not-opened : goal.returns-then-not-opened
returns-then-not-opened c =
    let a = c.args in
    let z = mark_disordered a.area.now a.mark.now c.if-area-ne-STORE_BYTES.false (omega (arith, c.clear.auto.b, c.if-mark-lt-LEAST_MARK.false)) (c.opened.ensures.bad (c.if-not-opened.true)) in
    let both = mark_numbered a.area.now a.mark.now (z.0, c.clear.ensures ∙ z.1) in
    record { result_value = both.0; value = both.1.0; mark_after = both.1.1 }

pub returns : goal.returns
returns c =
    let a = c.args in
    let both = mark_numbered a.area.now a.mark.now
    (mark_made a.area.now a.mark.now c.if-area-ne-STORE_BYTES.false (omega (arith, c.clear.auto.b, c.if-mark-lt-LEAST_MARK.false)) c.opened.new.schema c.opened.new.rows (c.opened.ensures.good (c.if-not-opened.false))
    c.new-m.result c.run_of.result c.number_of.result c.new-m.ensures c.run_of.ensures c.number_of.ensures
    c.clear.new.b c.write.new.out c.clear.ensures c.write.ensures) in
    record { result_value = both.0; value = both.1.0; mark_after = both.1.1 }
