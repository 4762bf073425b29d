-- `arrival::step` meets its contract.
use mathlib.Core.Path.{sym, ◌∙◌}
use Rattle.record.specs.Reading.{arrival_record}
use Rattle.arrival.proofs.Answers.{step_bad, step_heard, step_welcome, step_applied}
use borrow.Author.Rules.{rules}
use Rattle.arrival.proofs.step.Goals as goal

pub returns-then-bad : goal.returns-then-bad
returns-then-bad c =
    let a = c.args in
    step_bad a.schema.now a.run a.m a.bytes.now a.count a.rows.now c.requires.ready.few (arrival_record c.read-arrival.result a.bytes.now) c.read-arrival.ensures.same (sym c.bad.ensures ∙ c.if-bad.true)

pub acts-left-requires : goal.acts-left-requires
acts-left-requires c =
    let a = c.args in
    record { accepted = search rules; ready = c.requires.ready; long = c.read-arrival.ensures.size; welcome = step_welcome a.schema.now a.run a.m a.bytes.now a.count a.rows.now c.requires.ready.few (arrival_record c.read-arrival.result a.bytes.now) c.read-arrival.ensures.same c.head_of-head.result (c.head_of-head.ensures a.bytes.now) (sym c.bad.ensures ∙ c.if-bad.false) (sym c.is_next.ensures ∙ c.if-is_next.true) }

pub returns-then-is_next : goal.returns-then-is_next
returns-then-is_next c =
    let a = c.args in
    step_applied a.schema.now a.run a.m a.bytes.now a.count a.rows.now c.requires.ready.few (arrival_record c.read-arrival.result a.bytes.now) c.read-arrival.ensures.same c.head_of-head.result (c.head_of-head.ensures a.bytes.now) (sym c.bad.ensures ∙ c.if-bad.false) (sym c.is_next.ensures ∙ c.if-is_next.true) c.applies.result c.applies.ensures c.acts-left.result c.acts-left.new.rows c.acts-left.ensures

pub returns : goal.returns
returns c =
    let a = c.args in
    rw c.heard.ensures (step_heard a.schema.now a.run a.m a.bytes.now a.count a.rows.now c.requires.ready.few (arrival_record c.read-arrival.result a.bytes.now) c.read-arrival.ensures.same c.head_of-head.result (c.head_of-head.ensures a.bytes.now) (sym c.bad.ensures ∙ c.if-bad.false) (sym c.is_next.ensures ∙ c.if-is_next.false))
