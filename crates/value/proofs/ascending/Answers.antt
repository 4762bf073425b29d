-- `value::ascending` meets its contract.
use Rattle.std.proofs.Common.{Bool, ◌&&◌, ◌+◌, ◌-◌, drop, sym, refl, ap, ◌∙◌, true, arith}
use Rattle.model.specs.Catalog.{base_numbered}
use Rattle.value.proofs.Order.{chain, chain_ascending, chain_on, chain_end}
use Rattle.value.proofs.ascending.Goals as goal

pub loop-i-init : goal.loop-i-init
loop-i-init c = refl

pub returns-then-not-less : goal.returns-then-not-less
returns-then-not-less c =
    let l = c.args.l.now in
    let k = base_numbered c.args.kind in
    let o = c.loop-i in
    let less = sym c.less.ensures ∙ c.if-not-less.true in
    sym (sym (chain_ascending k l) ∙ o.invariant ∙ chain_on k l o.i true (omega arith) (omega arith) ∙ ap (λ (b : Bool). b && chain k (drop (o.i + 1 - 1) l)) less)

pub loop-i-preserved : goal.loop-i-preserved
loop-i-preserved c =
    let l = c.args.l.now in
    let k = base_numbered c.args.kind in
    let o = c.loop-i in
    let less = sym c.less.ensures ∙ c.if-not-less.false in
    o.invariant ∙ chain_on k l o.i true (omega arith) (omega arith) ∙ ap (λ (b : Bool). b && chain k (drop (o.i + 1 - 1) l)) less

pub returns : goal.returns
returns c =
    let l = c.args.l.now in
    let k = base_numbered c.args.kind in
    sym (sym (chain_ascending k l) ∙ c.loop-i.invariant ∙ chain_end k l c.loop-i.i true (omega arith))
