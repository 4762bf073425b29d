-- `area::ascending` meets its contract.
use Rattle.std.proofs.Common.{◌≡◌, ◌+◌, ◌-◌, sym, refl, ◌∙◌, arith}
use Rattle.area.proofs.Walks.{ascends_on, ascends_off, ascends_end}
use Rattle.area.proofs.ascending.Goals as goal

pub loop-i-init : goal.loop-i-init
loop-i-init c = λ s. refl

pub returns-then-not-less : goal.returns-then-not-less
returns-then-not-less c = λ s.
    let a = c.args in
    let l = c.loop-i in
    let next : l.i - 1 + 1 ≡ l.i = omega arith in
    let less = sym c.less.ensures ∙ c.if-not-less.true in
    sym (l.invariant s ∙ ascends_off s a.rows.now a.n c.requires (l.i - 1) (omega arith) (rw next less))

pub loop-i-preserved : goal.loop-i-preserved
loop-i-preserved c = λ s.
    let a = c.args in
    let l = c.loop-i in
    let next : l.i - 1 + 1 ≡ l.i = omega arith in
    let same : l.i + 1 - 1 ≡ l.i = omega arith in
    let less = sym c.less.ensures ∙ c.if-not-less.false in
    rw (same, ← next) (l.invariant s ∙ ascends_on s a.rows.now a.n c.requires (l.i - 1) (omega arith) (rw next less))

pub returns : goal.returns
returns c = λ s.
    let a = c.args in
    sym (c.loop-i.invariant s ∙ ascends_end s a.rows.now a.n c.requires (c.loop-i.i - 1) (omega arith))
