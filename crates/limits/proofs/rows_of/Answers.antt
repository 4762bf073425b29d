-- `limits::rows_of` meets its contract.
use mathlib.Core.Path.{ap, ◌∙◌}
use lib.ListN.{length, take}
use Rattle.std.proofs.Common.{rules, tests}
use Rattle.std.proofs.lemmas.Iterator.{YieldsList-from_slice}
use Rattle.std.proofs.lemmas.Iterator.Consumers.{count_from_yields_List, YieldsList-from_filter}
use Rattle.limits.specs.Alike.{of_t}
use Rattle.limits.proofs.Kept.{kept_list}
use Rattle.limits.proofs.rows_of.Goals as goal

pub returns : goal.returns
returns c =
    let a = c.args in
    let l = take a.n a.rows.now in
    count_from_yields_List _ c.count.result c.count.ensures.ran (YieldsList-from_filter _ (of_t a.table) (YieldsList-from_slice l cc) c.filter.ensures.closure (λ x b q k. search (rules, tests)))
    ∙ ap length (kept_list (of_t a.table) l)
