-- `text::same_bodies` meets its contract.
use mathlib.Core.Path.{sym, ◌∙◌}
use Rattle.text.proofs.Stepping.{inside_none, going_on, bytes_less, same_on, same_off, same_short, same_long, same_end}
use Rattle.text.proofs.same_bodies.Goals as goal

pub next_byte-x-requires : goal.next_byte-x-requires
next_byte-x-requires c = inside_none c.args.text.now c.args.p

pub next_byte-y-requires : goal.next_byte-y-requires
next_byte-y-requires c = inside_none c.args.text.now c.args.q

pub loop-x-init : goal.loop-x-init
loop-x-init c =
    (rw (c.next_byte-x.ensures.bytes, c.next_byte-y.ensures.bytes), c.next_byte-x.ensures.going, c.next_byte-y.ensures.going)

pub returns-then-b-c : goal.returns-then-b-c
returns-then-b-c c =
    let a = c.args in
    sym (c.loop-x.invariant.0 ∙ same_off a.text.now c.in-Some.is c.in-Some-y.is c.if-b-c.true)

pub next_byte-x-requires-in-Some-y : goal.next_byte-x-requires-in-Some-y
next_byte-x-requires-in-Some-y c =
    going_on c.args.text.now c.in-Some.is c.loop-x.invariant.1

pub next_byte-y-requires-in-Some-y : goal.next_byte-y-requires-in-Some-y
next_byte-y-requires-in-Some-y c =
    going_on c.args.text.now c.in-Some-y.is c.loop-x.invariant.2

pub loop-x-smaller : goal.loop-x-smaller
loop-x-smaller c =
    let a = c.args in
    rw c.next_byte-x-in-Some-y.ensures.bytes (bytes_less a.text.now c.in-Some.is)

pub loop-x-preserved : goal.loop-x-preserved
loop-x-preserved c =
    let a = c.args in
    let h = same_on a.text.now c.in-Some.is c.in-Some-y.is c.if-b-c.false in
    (c.loop-x.invariant.0 ∙ h ∙ rw (c.next_byte-x-in-Some-y.ensures.bytes, c.next_byte-y-in-Some-y.ensures.bytes), c.next_byte-x-in-Some-y.ensures.going, c.next_byte-y-in-Some-y.ensures.going)

pub returns-in-None-y : goal.returns-in-None-y
returns-in-None-y c =
    let a = c.args in
    sym (c.loop-x.invariant.0 ∙ same_short a.text.now c.in-Some.is c.in-None-y.is)

pub returns-in-Some-y-2 : goal.returns-in-Some-y-2
returns-in-Some-y-2 c =
    let a = c.args in
    sym (c.loop-x.invariant.0 ∙ same_long a.text.now c.in-Some-y-2.is c.in-None.is)

pub returns-in-None-y-2 : goal.returns-in-None-y-2
returns-in-None-y-2 c =
    let a = c.args in
    sym (c.loop-x.invariant.0 ∙ same_end a.text.now c.in-None.is c.in-None-y-2.is)
