-- `text::char_is` meets its contract.
use mathlib.Core.Path.{sym, ap, ◌∙◌}
use native.Mathlib.Omega.{arith}
use native.Mathlib.Nat.{sub-zero}
use borrow.Author.Tests.{ne_eqb}
use lib.ListN.{replicate}
use Rattle.model.specs.Scan.{byte}
use Rattle.model.specs.Strings.{char_bytes}
use Rattle.text.specs.Match.{matched}
use Rattle.text.proofs.Pushing.{held}
use Rattle.text.proofs.Sizes.{escape_small}
use Rattle.text.proofs.char_is.Goals as goal

pub part_is-requires : goal.part_is-requires
part_is-requires c =
    let a = c.args in
    let b = sym c.peek-b.ensures ∙ c.if-b-eq-BACKSLASH.true in
    let f = held {before = replicate 4 0} c.emit-w.ensures (escape_small a.text.now a.at a.e _ b) in
    omega (arith, c.count-n.ensures, f.0, f.2, escape_small a.text.now a.at a.e _ b)

pub returns-then-b-eq-BACKSLASH : goal.returns-then-b-eq-BACKSLASH
returns-then-b-eq-BACKSLASH c =
    let a = c.args in
    let s = a.text.now in
    let b = sym c.peek-b.ensures ∙ c.if-b-eq-BACKSLASH.true in
    let f = held {before = replicate 4 0} c.emit-w.ensures (escape_small s a.at a.e _ b) in
    c.part_is.ensures ∙ ap (λ l. matched l a.word.now a.o) (rw (c.count-n.ensures, sub-zero, f.0) f.1)

pub returns : goal.returns
unfolding char_bytes
returns c =
    c.part_is-2.ensures ∙ rw (char_bytes, ne_eqb (byte c.args.text.now c.args.at) 92 (λ h. c.if-b-eq-BACKSLASH.false (c.peek-b.ensures ∙ h)))
