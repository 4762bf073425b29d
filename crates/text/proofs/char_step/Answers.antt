-- `text::char_step` meets its contract.
use Prim.Native.Nat.{◌<◌}
use mathlib.Core.Path.{sym, ap, subst, ◌∙◌}
use native.Mathlib.Omega.{arith}
use native.Mathlib.Nat.{sub-zero}
use lib.ListN.{length, replicate}
use Rattle.model.specs.Scan.{byte, between}
use Rattle.text.specs.Steps.{picked}
use Rattle.text.proofs.Pushing.{held}
use Rattle.text.proofs.Sizes.{escape_small}
use Rattle.text.proofs.Stepping.{plain_bytes, between_length}
use Rattle.text.proofs.char_step.Goals as goal

pub pick-requires : goal.pick-requires
pick-requires c =
    let a = c.args in
    let b = sym c.peek-b.ensures ∙ c.if-b-eq-BACKSLASH.true in
    let s = escape_small a.text.now a.at a.e (byte a.text.now a.at) b in
    let f = held {before = replicate 4 0} c.emit-w.ensures s in
    record { to_in_bounds = omega (arith, c.count-n.ensures, f.0, f.2, s); off_bound = omega (arith, c.count-n.ensures, f.0, c.requires.off_in_bounds) }

pub returns-then-b-eq-BACKSLASH : goal.returns-then-b-eq-BACKSLASH
returns-then-b-eq-BACKSLASH c =
    let a = c.args in
    let s = a.text.now in
    let b = sym c.peek-b.ensures ∙ c.if-b-eq-BACKSLASH.true in
    let f = held {before = replicate 4 0} c.emit-w.ensures (escape_small s a.at a.e (byte s a.at) b) in
    c.pick.ensures ∙ ap (λ l. picked l a.at a.e a.off) (rw (c.count-n.ensures, sub-zero, f.0) f.1)

pub pick-requires-2 : goal.pick-requires-2
pick-requires-2 c =
    let a = c.args in
    let s = a.text.now in
    let l : a.off < length (between s a.at a.e) = subst (λ l. a.off < length l) (plain_bytes s a.at a.e (λ h. c.if-b-eq-BACKSLASH.false (c.peek-b.ensures ∙ h))) c.requires.off_in_bounds in
    record { to_in_bounds = c.requires.e_in_bounds; off_bound = omega (arith, l, between_length s a.at a.e c.requires.e_in_bounds) }

pub returns : goal.returns
returns c =
    let a = c.args in
    c.pick-2.ensures ∙ ap (λ l. picked l a.at a.e a.off) (sym (plain_bytes a.text.now a.at a.e (λ h. c.if-b-eq-BACKSLASH.false (c.peek-b.ensures ∙ h))))
