-- `nav::next_after` meets its contract.
use mathlib.Core.Path.{sym, ◌∙◌}
use native.Mathlib.Omega.{arith}
use borrow.Author.Tests.{ne_eqb, eq-eqb}
use Rattle.scan.proofs.Bytes.{inside_byte}
use Rattle.nav.specs.Known.{next_after}
use Rattle.nav.proofs.next_after.Goals as goal

pub overflow_add-result : goal.overflow_add-result
overflow_add-result c =
    omega (arith, inside_byte c.args.text.now c.spaces-i.result 44 (sym c.peek-b.ensures ∙ c.if-b-eq-COMMA.true) (omega arith))

pub returns-then-b-eq-COMMA : goal.returns-then-b-eq-COMMA
unfolding next_after
returns-then-b-eq-COMMA c = rw (next_after, ← c.spaces-i.ensures, eq-eqb _ _ (sym c.peek-b.ensures ∙ c.if-b-eq-COMMA.true), ← c.spaces-i.ensures)

pub returns : goal.returns
unfolding next_after
returns c = rw (next_after, ← c.spaces-i.ensures, ne_eqb _ _ (λ h. c.if-b-eq-COMMA.false (c.peek-b.ensures ∙ h)))
