-- `arrival::bad` meets its contract.
use mathlib.Core.Bool.{not}
use mathlib.Core.Path.{sym, ap, ◌∙◌}
use Prim.Native.Nat.{◌-◌}
use Rattle.model.specs.Catalog.{packed_tables}
use Rattle.inner.specs.Working.{working}
use Rattle.record.specs.Reading.{arrival_record}
use Rattle.arrival.specs.declared.Head.{Head}
use Rattle.arrival.proofs.Answers.{bad_unsound, bad_mark, bad_zero, bad_later, bad_next}
use borrow.Author.Tests.{eq-eqb, ne_eqb}
use Rattle.arrival.proofs.bad.Goals as goal

pub returns-then-not-sound : goal.returns-then-not-sound
returns-then-not-sound c =
    let a = c.args in
    sym (bad_unsound (packed_tables a.schema.now) a.n (working (packed_tables a.schema.now) a.count a.rows.now) (arrival_record a.arrival a.bytes.now) (sym c.sound.ensures ∙ c.if-not-sound.true))

pub returns-then-head : goal.returns-then-head
returns-then-head c =
    let a = c.args in
    sym (bad_mark (packed_tables a.schema.now) a.n (working (packed_tables a.schema.now) a.count a.rows.now) (arrival_record a.arrival a.bytes.now) (sym (ap (λ (h : Head). h.marks) (c.head_of-head.ensures a.bytes.now)) ∙ c.if-head.true))

pub returns-then-head-eq0 : goal.returns-then-head-eq0
returns-then-head-eq0 c =
    let a = c.args in
    let e = c.head_of-head.ensures a.bytes.now in
    eq-eqb _ _ c.if-head-eq0.true
    ∙ sym (bad_zero (packed_tables a.schema.now) a.n (working (packed_tables a.schema.now) a.count a.rows.now) (arrival_record a.arrival a.bytes.now)
    (sym (ap (λ (h : Head). h.marks) e) ∙ c.if-head.false) (sym (ap (λ (h : Head). h.number) e) ∙ c.if-head-eq0.true))

pub returns-else-head-n : goal.returns-else-head-n
returns-else-head-n c =
    let a = c.args in
    let e = c.head_of-head.ensures a.bytes.now in
    ne_eqb _ _ c.if-head-n.false
    ∙ sym (bad_later (packed_tables a.schema.now) a.n (working (packed_tables a.schema.now) a.count a.rows.now) (arrival_record a.arrival a.bytes.now)
    (sym c.sound.ensures ∙ c.if-not-sound.false)
    (sym (ap (λ (h : Head). h.marks) e) ∙ c.if-head.false)
    (λ z. c.if-head-eq0.false (ap (λ (h : Head). h.number) e ∙ z))
    (λ z. c.if-head-n.false (ap (λ (h : Head). h.number - 1) e ∙ z)))

pub returns-then-head-n : goal.returns-then-head-n
returns-then-head-n c =
    let a = c.args in
    let e = c.head_of-head.ensures a.bytes.now in
    let t = packed_tables a.schema.now in
    ap not (c.fits.ensures t)
    ∙ sym (bad_next t a.n (working t a.count a.rows.now) (arrival_record a.arrival a.bytes.now)
    (sym c.sound.ensures ∙ c.if-not-sound.false)
    (sym (ap (λ (h : Head). h.marks) e) ∙ c.if-head.false)
    (λ z. c.if-head-eq0.false (ap (λ (h : Head). h.number) e ∙ z))
    (sym (ap (λ (h : Head). h.number - 1) e) ∙ c.if-head-n.true))
