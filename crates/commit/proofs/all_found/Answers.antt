-- `commit::all_found` meets its contract.
use mathlib.Core.Path.{◌∙◌}
use mathlib.Core.Bool.{Bool}
use mathlib.Core.List.{List}
use Prim.Native.Nat.{ℕ}
use lib.ListN.{take}
use Rattle.std.proofs.Common.{rules, tests}
use Rattle.std.proofs.lemmas.Iterator.{YieldsList-from_slice}
use Rattle.std.proofs.lemmas.Iterator.Search.{all_from_yields_List}
use Rattle.model.specs.Rows.{Row}
use Rattle.model.specs.Areas.{row_from}
use Rattle.model.specs.Catalog.{packed_tables}
use Rattle.inner.specs.Working.{working}
use Rattle.references.specs.Links.{referred}
use Rattle.references.proofs.Walks.{all_rows}
use Rattle.commit.proofs.all_found.Goals as goal

pub returns : goal.returns
unfolding working
returns c =
    let a = c.args in
    let s = packed_tables a.schema.now in
    let found : Row → Bool = referred s a.how (working s a.n a.rows.now) in
    let l = take a.n a.rows.now in
    all_from_yields_List (λ (r : List (List ℕ)). found (row_from s r)) _ _ _ c.all.ensures.ran (YieldsList-from_slice l cc) (λ x b q k. search (rules, tests))
    ∙ all_rows s found l
