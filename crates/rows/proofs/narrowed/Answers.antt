-- `rows::narrowed` meets its contract.
use mathlib.Core.Path.{◌≡◌, sym, ◌∙◌}
use mathlib.Core.Logic.{⊎_elim}
use mathlib.Core.List.{[]}
use Prim.Native.Nat.{◌+◌, ◌-◌, ◌/◌}
use native.Mathlib.Omega.{arith}
use borrow.Author.Tests.{not-true, not-false, ltb-true, ltb-false}
use lib.Dec.{ltb}
use lib.ListN.{get_or}
use Rattle.inner.specs.Working.{key_in}
use Rattle.rows.specs.Post.{key_of_halves, Narrowed}
use Rattle.rows.proofs.Search.{narrow_up, narrow_down}
use Rattle.rows.proofs.narrowed.Goals as goal

pub loop-len-init : goal.loop-len-init
loop-len-init c = record { within = (omega arith, omega arith); above = λ i h. absurd (omega arith); below = λ i h g. absurd (omega arith) }

pub overflow_add-from : goal.overflow_add-from
overflow_add-from c = omega (arith, c.loop-len.invariant.within)

pub offset_bounds-rows-from : goal.offset_bounds-rows-from
offset_bounds-rows-from c = omega (arith, c.loop-len.invariant.within, c.well_formed)

pub bounds-rows-from : goal.bounds-rows-from
bounds-rows-from c = omega (arith, c.loop-len.invariant.within, c.requires.there)

pub overflow_add-from-then-up_to : goal.overflow_add-from-then-up_to
overflow_add-from-then-up_to c = omega (arith, c.loop-len.invariant.within)

pub loop-len-preserved : goal.loop-len-preserved
loop-len-preserved c =
    let a = c.args in
    let l = c.loop-len in
    let t = c.loop-len-test.true in
    let u = c.up_to.ensures in
    let k = key_of_halves a.table a.high a.low in
    let m = l.from + l.len / 2 in
    let x = key_in (get_or a.rows.now m []) in
    ⊎_elim {C = Narrowed a.n k a.rows.now c.if-up_to.from (c.if-up_to.from + (l.len - l.len / 2))}
    (λ w.
    let e : m + (l.len - l.len / 2) ≡ l.from + l.len = omega arith in
    rw (w.from-is, e) (narrow_up a.n a.rows.now c.requires k l.from (l.from + l.len) m l.invariant (omega arith) (ltb-false k x (not-true (ltb k x) (sym u ∙ w.if-up_to.true)))))
    (λ w.
    rw w.from-is (narrow_down a.n a.rows.now c.requires k l.from (l.from + l.len) m l.invariant (l.from + (l.len - l.len / 2)) (omega arith) (omega arith) (omega arith) (omega (arith, l.invariant.within)) (ltb-true k x (not-false (ltb k x) (sym u ∙ w.if-up_to.false)))))
    c.if-up_to.branch-raw

pub overflow_add-result : goal.overflow_add-result
overflow_add-result c = omega (arith, c.loop-len.invariant.within)

pub returns : goal.returns
returns c = c.loop-len.invariant
