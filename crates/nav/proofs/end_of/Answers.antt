-- `nav::end_of` meets its contract.
use Rattle.std.specs.Prelude.{Ok}
use mathlib.Core.Path.{sym, ap, ◌∙◌}
use mathlib.Core.Logic.{⊎_elim}
use Rattle.inner.specs.Positions.{Says}
use Rattle.nav.proofs.end_of.Goals as goal

pub returns : goal.returns
unfolding Says
returns c =
    ⊎_elim (λ z. absurd (c.if-e-eq0.false (c.entry-e.ensures ∙ z))) (λ q. ap Ok c.entry-e.ensures ∙ sym q) (c.requires c.args.at)
