-- `text::copy` meets its contract.
use Prim.Native.Nat.{◌-◌}
use mathlib.Core.Path.{◌≡◌, refl, ◌∙◌}
use native.Mathlib.Omega.{arith}
use native.Mathlib.Nat.{sub_self}
use Rattle.text.specs.Push.{push_all_to, push_all_out}
use Rattle.text.proofs.Pushing.{pushed_append, between_more}
use Rattle.text.proofs.copy.Goals as goal

pub loop-i-init : goal.loop-i-init
unfolding push_all_to push_all_out
loop-i-init c =
    let a = c.args in
    ((omega arith, omega arith), (refl, rw sub_self (record { to = refl; out = refl })))

pub loop-i-preserved : goal.loop-i-preserved
loop-i-preserved c =
    let a = c.args in
    ((omega arith, omega arith), (c.push-x.auto.out ∙ c.loop-i.invariant.1.0, rw (between_more a.text.now a.from c.loop-i.i c.loop-i.invariant.0.0 (omega arith)) (pushed_append c.loop-i.invariant.1.1 c.push-x.ensures)))

pub shape_of-out : goal.shape_of-out
shape_of-out c = c.loop-i.invariant.1.0

pub returns : goal.returns
returns c =
    let a = c.args in
    let z : c.loop-i.i - a.from ≡ a.to - a.from = omega arith in
    rw (← z) c.loop-i.invariant.1.1
