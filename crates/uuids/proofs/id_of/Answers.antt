-- `uuids::id_of` meets its contract.
use Prim.Native.Nat.{◌+◌}
use native.Mathlib.Omega.{arith}
use mathlib.Core.Path.{subst, sym}
use Rattle.uuids.specs.Ids.{Spells}
use Rattle.uuids.proofs.Spelling.{Sofar, sofar_start, sofar_on, sofar_end, not_36}
use Rattle.uuids.proofs.id_of.Goals as goal

pub returns-then-t-ne-CHARACTERS : goal.returns-then-t-ne-CHARACTERS
unfolding Spells
returns-then-t-ne-CHARACTERS c =
    let t = c.args.t.now in
    not_36 0 0 t (λ e. c.if-t-ne-CHARACTERS.true (omega (arith, e)))

pub loop-at-init : goal.loop-at-init
loop-at-init c = sofar_start c.args.t.now

pub loop-at-preserved : goal.loop-at-preserved
loop-at-preserved c =
    let l = c.loop-at in
    let t = c.args.t.now in
    subst (Sofar t (l.at + 1)) (sym c.spell-i.ensures) (sofar_on t l.at l.i (omega (arith, c.if-t-ne-CHARACTERS.false)) l.invariant)

pub returns : goal.returns
returns c =
    let l = c.loop-at in
    sofar_end c.args.t.now l.at l.i c.if-t-ne-CHARACTERS.false (omega arith) l.invariant
