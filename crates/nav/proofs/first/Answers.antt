-- `nav::first` meets its contract.
use mathlib.Core.Path.{sym, ◌∙◌}
use native.Mathlib.Omega.{arith}
use borrow.Author.Tests.{ne_eqb, eq-eqb}
use Rattle.scan.proofs.Bytes.{inside_byte}
use Rattle.inner.specs.Positions.{first_of, first_from}
use Rattle.nav.proofs.first.Goals as goal

pub overflow_add-i : goal.overflow_add-i
overflow_add-i c =
    omega (arith, inside_byte c.args.text.now c.spaces-i.result c.args.opener (sym c.peek-b.ensures ∙ c.if-b-o.true) (omega (arith, c.ranges.opener)))

pub returns-then-d-c : goal.returns-then-d-c
unfolding first_of
returns-then-d-c c =
    rw (first_of, ← c.spaces-i.ensures, eq-eqb _ _ (sym c.peek-b.ensures ∙ c.if-b-o.true), ← c.spaces-i.ensures, ← c.spaces-j.ensures) (unfold first_from in rw (first_from, eq-eqb _ _ (sym c.peek-d.ensures ∙ c.if-d-c.true)))

pub returns-then-b-o : goal.returns-then-b-o
unfolding first_of
returns-then-b-o c =
    rw (first_of, ← c.spaces-i.ensures, eq-eqb _ _ (sym c.peek-b.ensures ∙ c.if-b-o.true), ← c.spaces-i.ensures, ← c.spaces-j.ensures) (unfold first_from in rw (first_from, ne_eqb _ _ (λ h. c.if-d-c.false (c.peek-d.ensures ∙ h))))

pub returns : goal.returns
unfolding first_of
returns c = rw (first_of, ← c.spaces-i.ensures, ne_eqb _ _ (λ h. c.if-b-o.false (c.peek-b.ensures ∙ h)))
