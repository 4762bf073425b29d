-- `nav::next_past` meets its contract.
use mathlib.Core.Path.{◌∙◌}
use Rattle.inner.specs.Positions.{next_member}
use Rattle.nav.proofs.Known.{next_is, member_known}
use Rattle.nav.proofs.next_past.Goals as goal

pub returns : goal.returns
unfolding next_member
returns c =
    c.next_after.ensures ∙ next_is c.args.text.now 125 (member_known c.args.text.now c.args.ends.now c.requires.says c.args.at c.requires.at_value c.entry-e.ensures c.if-e-eq0.false)
