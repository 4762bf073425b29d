-- `nav::truth_at` meets its contract.
use mathlib.Core.Path.{sym, ap, ◌∙◌}
use lib.Dec.{eqb}
use Rattle.model.specs.Scan.{byte}
use Rattle.nav.proofs.FirstByte.{true_is}
use Rattle.nav.proofs.truth_at.Goals as goal

pub returns : goal.returns
returns c =
    let s = c.args.text.now in
    ap (λ x. eqb x 116) (c.peek-b.ensures ∙ ap (byte s) c.spaces-i.ensures) ∙ sym (true_is s c.args.at)
