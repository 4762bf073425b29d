-- `limits::all_enough` meets its contract.
use mathlib.Core.Path.{◌∙◌}
use mathlib.Core.List.{List}
use Prim.Native.Nat.{ℕ}
use lib.ListN.{take}
use Rattle.std.proofs.Common.{rules, tests}
use Rattle.std.proofs.lemmas.Iterator.{YieldsList-from_slice}
use Rattle.std.proofs.lemmas.Iterator.Search.{all_from_yields_List}
use Rattle.model.specs.Areas.{row_from}
use Rattle.model.specs.Catalog.{packed_tables}
use Rattle.inner.specs.Working.{working}
use Rattle.references.proofs.Walks.{all_rows}
use Rattle.limits.specs.Alike.{row_enough}
use Rattle.limits.proofs.all_enough.Goals as goal

pub returns : goal.returns
unfolding working row_enough
returns c =
    let a = c.args in
    let s = packed_tables a.schema.now in
    let l = take a.n a.rows.now in
    all_from_yields_List (λ (r : List (List ℕ)). row_enough s (row_from s r)) _ _ _ c.all.ensures.ran (YieldsList-from_slice l cc) (λ x b q k. search (rules, tests))
    ∙ all_rows s (row_enough s) l
