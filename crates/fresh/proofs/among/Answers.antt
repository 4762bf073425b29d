-- `fresh::among` meets its contract.
use mathlib.Core.Path.{sym, ap, ◌∙◌}
use native.Mathlib.Omega.{arith}
use lib.Dec.{eqb}
use Rattle.model.specs.Octets.{value}
use Rattle.fresh.proofs.Ids.{among_here, among_on, among_end}
use Rattle.fresh.proofs.among.Goals as goal

pub returns-then-same : goal.returns-then-same
returns-then-same c =
    let a = c.args in
    sym (c.loop-i.invariant ∙ sym (among_here a.fresh.now (value a.id.now) c.loop-i.i (omega arith) (ap (eqb (value a.id.now)) (sym c.id_at.ensures.is) ∙ sym c.same.ensures ∙ c.if-same.true)))

pub loop-i-preserved : goal.loop-i-preserved
loop-i-preserved c =
    let a = c.args in
    c.loop-i.invariant ∙ among_on a.fresh.now (value a.id.now) c.loop-i.i (omega arith) (ap (eqb (value a.id.now)) (sym c.id_at.ensures.is) ∙ sym c.same.ensures ∙ c.if-same.false)

pub returns : goal.returns
returns c =
    let a = c.args in
    sym (c.loop-i.invariant ∙ sym (among_end a.fresh.now (value a.id.now) c.loop-i.i (omega arith)))
