-- `mirror::column` meets its contract.
use mathlib.Core.Logic.{inl, inr}
use mathlib.Core.Path.{sym, ◌∙◌}
use native.Mathlib.Omega.{arith}
use Rattle.model.specs.Calls.{no_contents, contents_of}
use Rattle.mirror.proofs.Opening.{state_bad, state_good, held_ordered}
use Rattle.mirror.proofs.Asking.{contents_are, ask_bad, ask_good, column_other, column_asked}
use Rattle.mirror.proofs.Numbered.{column_numbered}
use borrow.Author.Rules.{rules}
use Rattle.mirror.proofs.column.Goals as goal

pub returns-then-out-ne-VALUE_BYTES : goal.returns-then-out-ne-VALUE_BYTES
returns-then-out-ne-VALUE_BYTES c =
    let a = c.args in
    let z = c.no_contents.ensures in
    let both = column_numbered a.area.now a.table a.id.now a.column a.out.now (column_other a.area.now a.table a.id.now a.column a.out.now (λ p q. elim c.then-out-ne-VALUE_BYTES.either [ inl n ↦ n p | inr w ↦ w.1 q ]) ∙ (λ j. record { status = sym z.0 j; out = sym z.1 j })) in
    record { result_value = both.0; out_value = both.1 }

pub opened-requires : goal.opened-requires
opened-requires c =
    let a = c.args in
    (c.if-area-ne-MIRROR_BYTES.false, omega arith)

pub returns-then-not-opened : goal.returns-then-not-opened
returns-then-not-opened c =
    let a = c.args in
    let z = c.no_contents-then-not-opened.ensures in
    let both = column_numbered a.area.now a.table a.id.now a.column a.out.now (column_asked a.area.now a.table a.id.now a.column a.out.now c.if-out-ne-VALUE_BYTES.false
    ∙ ask_bad a.area.now (no_contents a.out.now) (contents_of a.table a.id.now a.column) c.if-area-ne-MIRROR_BYTES.false (state_bad c.opened.ensures (c.if-not-opened.true))
    ∙ (λ j. record { status = sym z.0 j; out = sym z.1 j })) in
    record { result_value = both.0; out_value = both.1 }

pub row_count-count-requires : goal.row_count-count-requires
row_count-count-requires c =
    let a = c.args in
    omega (arith, c.if-area-ne-MIRROR_BYTES.false)

pub column-requires : goal.column-requires
column-requires c =
    let a = c.args in
    let h = c.opened.ensures.held (c.if-not-opened.false) in
    record { accepted = h.accepted; ready = record { few = omega (arith, h.few, c.row_count-count.ensures); room = search rules; ordered = held_ordered h c.row_count-count.result c.row_count-count.ensures }; out_len = c.if-out-ne-VALUE_BYTES.false }

pub returns : goal.returns
returns c =
    let a = c.args in
    let b = c.if-not-opened.false in
    let both = column_numbered a.area.now a.table a.id.now a.column a.out.now (column_asked a.area.now a.table a.id.now a.column a.out.now c.if-out-ne-VALUE_BYTES.false
    ∙ ask_good a.area.now (no_contents a.out.now) (contents_of a.table a.id.now a.column) c.if-area-ne-MIRROR_BYTES.false (state_good c.opened.ensures b)
    ∙ contents_are (c.opened.ensures.held b) c.row_count-count.result c.row_count-count.ensures a.table a.id.now a.column _ c.column.ensures) in
    record { result_value = both.0; out_value = both.1 }
