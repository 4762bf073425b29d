-- `text::body_at` meets its contract.
use mathlib.Core.Path.{◌≡◌, sym, ap, ◌∙◌}
use native.Mathlib.Omega.{arith}
use lib.Dec.{lit<}
use Rattle.model.specs.Scan.{byte, spaces_at}
use Rattle.scan.proofs.Bytes.{inside_byte}
use Rattle.text.proofs.Words.{quote_place, other_place}
use Rattle.text.proofs.body_at.Goals as goal

pub overflow_add-result : goal.overflow_add-result
overflow_add-result c =
    omega (arith, inside_byte c.args.text.now c.spaces-i.result 34 (sym c.peek-b.ensures ∙ c.if-b-eq-QUOTE.true) (lit< tt))

pub returns-then-b-eq-QUOTE : goal.returns-then-b-eq-QUOTE
returns-then-b-eq-QUOTE c =
    let first_byte : c.peek-b.result ≡ byte c.args.text.now (spaces_at c.args.text.now c.args.at) = c.peek-b.ensures ∙ ap (byte c.args.text.now) c.spaces-i.ensures in
    let a = c.args in
    rw c.spaces-i.ensures (quote_place a.text.now a.at (sym (first_byte) ∙ c.if-b-eq-QUOTE.true))

pub returns : goal.returns
returns c =
    let first_byte : c.peek-b.result ≡ byte c.args.text.now (spaces_at c.args.text.now c.args.at) = c.peek-b.ensures ∙ ap (byte c.args.text.now) c.spaces-i.ensures in
    let a = c.args in
    other_place a.text.now a.at (λ h. c.if-b-eq-QUOTE.false (first_byte ∙ h))
