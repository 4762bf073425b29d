-- `nav::kind_at` meets its contract.
use mathlib.Core.Path.{sym, ap, ◌∙◌}
use Rattle.inner.specs.Positions.{kind_by}
use Rattle.model.specs.Scan.{byte}
use Rattle.nav.proofs.FirstByte.{kind_is}
use Rattle.nav.proofs.kind_at.Goals as goal

pub returns : goal.returns
returns c =
    let s = c.args.text.now in
    c.kind_by.ensures ∙ ap kind_by (c.peek.ensures ∙ ap (byte s) c.spaces-i.ensures) ∙ sym (kind_is s c.args.at)
