-- `limits::within` meets its contract.
use mathlib.Core.Path.{sym, ap, ◌∙◌}
use mathlib.Core.Bool.{not}
use lib.Dec.{leb}
use Rattle.limits.proofs.Enough.{limit_none, limit_some}
use Rattle.limits.proofs.within.Goals as goal

pub returns-then-not-is_limited : goal.returns-then-not-is_limited
returns-then-not-is_limited c =
    let a = c.args in
    ap not c.if-not-is_limited.true ∙ sym (limit_none a.entry.now a.k (sym c.is_limited.ensures ∙ c.if-not-is_limited.true))

pub returns-else-not-is_limited : goal.returns-else-not-is_limited
returns-else-not-is_limited c =
    let a = c.args in
    ap (leb a.k) c.max_rows.ensures ∙ sym (limit_some a.entry.now a.k (sym c.is_limited.ensures ∙ c.if-not-is_limited.false))
