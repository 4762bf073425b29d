-- `marks::count` meets its contract.
use mathlib.Core.Path.{◌∙◌}
use mathlib.Core.Bool.{Bool}
use native.Mathlib.Omega.{arith}
use lib.ListN.{take}
use Rattle.std.proofs.Common.{rules, tests}
use Rattle.std.proofs.lemmas.Iterator.{YieldsList-from_slice}
use Rattle.std.proofs.lemmas.Iterator.Consumers.{count_from_yields_List, YieldsList-from_filter}
use Rattle.marks.proofs.Marking.{marked_list}
use Rattle.marks.proofs.count.Goals as goal

pub returns : goal.returns
returns c =
    let a = c.args in
    count_from_yields_List _ c.count.result c.count.ensures.ran (YieldsList-from_filter _ (λ (b : Bool). b) (YieldsList-from_slice (take a.n a.marks.now) cc) c.filter.ensures.closure (λ x b q k. search (rules, tests)))
    ∙ marked_list a.marks.now a.n (omega (arith, c.requires))
