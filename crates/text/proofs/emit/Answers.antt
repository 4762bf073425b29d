-- `text::emit` meets its contract.
use borrow.Author.Tests.{ne_eqb, eq-eqb}
use mathlib.Core.Path.{sym, ◌∙◌}
use native.Mathlib.Omega.{arith}
use lib.Dec.{lit<}
use Prim.Native.Nat.{◌+◌}
use Rattle.model.specs.Strings.{char_bytes}
use Rattle.scan.proofs.Bytes.{inside_byte}
use Rattle.text.proofs.Units.{unit_below, escape_bytes_same}
use Rattle.text.proofs.emit.Goals as goal

pub overflow_add-at : goal.overflow_add-at
overflow_add-at c =
    let a = c.args in
    omega (arith, inside_byte a.text.now a.at 92 (sym c.peek-b.ensures ∙ c.if-b-eq-BACKSLASH.true) (lit< tt))

pub overflow_add-at-then-c-eq-LETTER_U : goal.overflow_add-at-then-c-eq-LETTER_U
overflow_add-at-then-c-eq-LETTER_U c =
    let a = c.args in
    omega (arith, inside_byte a.text.now (a.at + 1) 117 (sym c.peek-c.ensures ∙ c.if-c-eq-LETTER_U.true) (lit< tt))

pub escape_bytes-requires : goal.escape_bytes-requires
escape_bytes-requires c =
    let a = c.args in
    rw c.hex4-h.ensures (unit_below a.text.now (a.at + 2))

pub returns-then-c-eq-LETTER_U : goal.returns-then-c-eq-LETTER_U
returns-then-c-eq-LETTER_U c =
    rw (← c.peek-b.ensures) (unfold char_bytes in rw (char_bytes, eq-eqb _ 92 c.if-b-eq-BACKSLASH.true, ← c.peek-c.ensures, eq-eqb _ 117 c.if-c-eq-LETTER_U.true, ← escape_bytes_same c.args.text.now, ← c.hex4-h.ensures) c.escape_bytes.ensures)

pub returns-then-b-eq-BACKSLASH : goal.returns-then-b-eq-BACKSLASH
returns-then-b-eq-BACKSLASH c =
    rw (← c.peek-b.ensures) (unfold char_bytes in rw (char_bytes, eq-eqb _ 92 c.if-b-eq-BACKSLASH.true, ← c.peek-c.ensures, ne_eqb _ 117 c.if-c-eq-LETTER_U.false, ← c.peek-c.ensures, ← c.short_escape-x.ensures) c.push.ensures)

pub returns : goal.returns
returns c =
    rw (← c.peek-b.ensures) (unfold char_bytes in rw (char_bytes, ne_eqb _ 92 c.if-b-eq-BACKSLASH.false) c.copy.ensures)
