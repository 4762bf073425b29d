-- `rows::passed` meets its contract.
use mathlib.Core.Path.{refl, sym, ◌∙◌}
use native.Mathlib.Omega.{arith}
use Rattle.model.specs.Octets.{value}
use Rattle.rows.proofs.Search.{low_half, pass_four}
use Rattle.rows.proofs.passed.Goals as goal

pub loop-i-init : goal.loop-i-init
loop-i-init c = (omega arith, λ s. refl)

pub overflow_add-i : goal.overflow_add-i
overflow_add-i c = omega (arith, c.well_formed)

pub returns-then-one_may_be : goal.returns-then-one_may_be
returns-then-one_may_be c = c.loop-i.invariant

pub loop-i-preserved : goal.loop-i-preserved
loop-i-preserved c =
    let a = c.args in
    let l = c.loop-i in
    let low = c.word-low in (
      omega arith,
      λ sc. l.invariant.1 sc ∙ pass_four sc a.rows.now a.n c.requires (value a.id.now) low.result l.i (omega arith)
          (low_half a.id.now (omega arith) (omega (arith, low.type_inv, low.ensures)) ∙ sym low.ensures)
          (λ j h. c.one_may_be.ensures j c.if-one_may_be.false h),
    )

pub returns : goal.returns
returns c = c.loop-i.invariant
