-- `mirror::has_row` meets its contract.
use mathlib.Core.Path.{sym, ap, ◌∙◌}
use Rattle.model.specs.Catalog.{packed_tables}
use Rattle.model.specs.Calls.{no_presence, presence_of, mirror_has_row}
use Rattle.mirror.proofs.Opening.{state_bad, state_good, held_ordered}
use Rattle.mirror.proofs.Asking.{presence_in, there_is, ask_other, ask_bad, ask_good}
use Rattle.mirror.proofs.Numbered.{row_numbered}
use Rattle.mirror.proofs.has_row.Goals as goal

pub returns-then-area-ne-MIRROR_BYTES : goal.returns-then-area-ne-MIRROR_BYTES
unfolding mirror_has_row
returns-then-area-ne-MIRROR_BYTES c =
    let a = c.args in
    let both = row_numbered a.area.now a.table a.id.now (ask_other a.area.now no_presence (presence_of a.table a.id.now) c.if-area-ne-MIRROR_BYTES.true ∙ ap presence_in (sym c.no_presence.ensures)) in
    record { status_value = both.0; id_value = both.1 }

pub returns-then-not-opened : goal.returns-then-not-opened
unfolding mirror_has_row
returns-then-not-opened c =
    let a = c.args in
    let both = row_numbered a.area.now a.table a.id.now (ask_bad a.area.now no_presence (presence_of a.table a.id.now) c.if-area-ne-MIRROR_BYTES.false (state_bad c.opened.ensures (c.if-not-opened.true)) ∙ ap presence_in (sym c.no_presence-then-not-opened.ensures)) in
    record { status_value = both.0; id_value = both.1 }

pub has_row-requires : goal.has_row-requires
has_row-requires c =
    let h = c.opened.ensures.held (c.if-not-opened.false) in
    held_ordered h c.row_count-count.result c.row_count-count.ensures

pub returns : goal.returns
unfolding mirror_has_row
returns c =
    let a = c.args in
    let b = c.if-not-opened.false in
    let both = row_numbered a.area.now a.table a.id.now (ask_good a.area.now no_presence (presence_of a.table a.id.now) c.if-area-ne-MIRROR_BYTES.false (state_good c.opened.ensures b)
    ∙ there_is (c.opened.ensures.held b) c.row_count-count.result c.row_count-count.ensures a.table a.id.now c.has_row.result (c.has_row.ensures (packed_tables c.opened.new.schema))) in
    record { status_value = both.0; id_value = both.1 }
