-- `nav::next_item` meets its contract.
use mathlib.Core.Path.{ap, ◌∙◌}
use Rattle.inner.specs.Positions.{next_item, found_of}
use Rattle.model.specs.Json.{after_item}
use Rattle.nav.proofs.Known.{next_is, end_known}
use Rattle.nav.proofs.next_item.Goals as goal

pub returns-then-e-eq0 : goal.returns-then-e-eq0
unfolding next_item
returns-then-e-eq0 c =
    let s = c.args.text.now in
    c.found.ensures ∙ ap found_of (c.after.ensures ∙ ap (after_item s 93) c.end_at-r.ensures)

pub returns : goal.returns
unfolding next_item
returns c =
    c.next_after.ensures ∙ next_is c.args.text.now 93 (end_known c.args.text.now c.args.ends.now c.requires c.args.at c.entry-e.ensures c.if-e-eq0.false)
