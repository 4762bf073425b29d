-- `selection::repeats` meets its contract.
use mathlib.Core.Path.{refl, sym, ap, ◌∙◌}
use mathlib.Core.Bool.{Bool, ◌||◌}
use mathlib.Core.List.{[]}
use Prim.Native.Nat.{◌-◌}
use native.Mathlib.Omega.{arith}
use lib.ListN.{get_or}
use Rattle.selection.specs.Picks.{repeated}
use Rattle.selection.proofs.Picks.{again_step, again_end}
use Rattle.selection.proofs.repeats.Goals as goal

pub loop-j-init : goal.loop-j-init
loop-j-init c = (omega arith, refl)

pub returns-then-same_marked : goal.returns-then-same_marked
returns-then-same_marked c =
    let a = c.args in
    sym (c.loop-j.invariant.1 ∙ again_step a.flags.now a.k a.marks.now a.rows.now (get_or a.rows.now a.i []) c.loop-j.j c.loop-j-test.true c.same_marked.ensures ∙ ap (λ (b : Bool). b || repeated a.flags.now a.k a.marks.now a.rows.now (get_or a.rows.now a.i []) (c.loop-j.j - 1)) c.if-same_marked.true)

pub loop-j-preserved : goal.loop-j-preserved
loop-j-preserved c =
    let a = c.args in
    (omega (arith, c.loop-j.invariant.0), c.loop-j.invariant.1 ∙ again_step a.flags.now a.k a.marks.now a.rows.now (get_or a.rows.now a.i []) c.loop-j.j c.loop-j-test.true c.same_marked.ensures ∙ ap (λ (b : Bool). b || repeated a.flags.now a.k a.marks.now a.rows.now (get_or a.rows.now a.i []) (c.loop-j.j - 1)) c.if-same_marked.false)

pub returns : goal.returns
returns c =
    let a = c.args in
    sym (c.loop-j.invariant.1 ∙ again_end a.flags.now a.k a.marks.now a.rows.now (get_or a.rows.now a.i []) c.loop-j.j c.loop-j-test.false)
