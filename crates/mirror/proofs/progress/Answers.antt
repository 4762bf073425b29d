-- `mirror::progress` meets its contract.
use mathlib.Core.Path.{sym, ap, ◌∙◌}
use Rattle.model.specs.Calls.{no_progress, progress_of, mirror_progress}
use Rattle.mirror.proofs.Opening.{state_bad, state_good}
use Rattle.mirror.proofs.Asking.{progress_is, progress_in, ask_other, ask_bad, ask_good}
use Rattle.mirror.proofs.Numbered.{progress_numbered}
use Rattle.mirror.proofs.progress.Goals as goal

pub returns-then-area-ne-MIRROR_BYTES : goal.returns-then-area-ne-MIRROR_BYTES
unfolding mirror_progress
returns-then-area-ne-MIRROR_BYTES c =
    let both = progress_numbered c.args.area.now (ask_other c.args.area.now no_progress progress_of c.if-area-ne-MIRROR_BYTES.true ∙ ap progress_in (sym c.no_standing.ensures)) in
    record { status_value = both.0; area_value = both.1 }

pub returns-then-not-opened : goal.returns-then-not-opened
unfolding mirror_progress
returns-then-not-opened c =
    let both = progress_numbered c.args.area.now (ask_bad c.args.area.now no_progress progress_of c.if-area-ne-MIRROR_BYTES.false (state_bad c.opened.ensures (c.if-not-opened.true)) ∙ ap progress_in (sym c.no_standing-then-not-opened.ensures)) in
    record { status_value = both.0; area_value = both.1 }

pub returns : goal.returns
unfolding mirror_progress
returns c =
    let a = c.args.area.now in
    let both = progress_numbered a (ask_good a no_progress progress_of c.if-area-ne-MIRROR_BYTES.false (state_good c.opened.ensures (c.if-not-opened.false)) ∙ progress_is a c.numbers_of-m.result c.level.result c.numbers_of-m.ensures c.level.ensures) in
    record { status_value = both.0; area_value = both.1 }
